use Rattle.std.proofs.Common.{◌≡◌, drop}
use Rattle.graph_picture.specs.Trains.{cleared_by}
use Rattle.graph_picture.proofs.train_drawing.cleared_by.Given as goal

abbrev pub invariant-loop-its : goal.invariant-loop-its
invariant-loop-its l =
    cleared_by l.box_no l.way (drop l.its-index l.deeds) ≡ cleared_by l.box_no l.way l.deeds
