use Rattle.std.proofs.Common.{◌≡◌, ◌++◌, None, drop}
use Rattle.std.specs.List.{flat_map}
use Rattle.std.specs.Prelude.{string_bytes}
use Rattle.graph_picture.specs.Trains.{corners_at, last_level}
use Rattle.graph_picture.proofs.train_drawing.corners_text.Given as goal

abbrev pub invariant-loop-its : goal.invariant-loop-its
invariant-loop-its l = record {
  text : string_bytes l.text ++ flat_map (corners_at l.layout l.axis) (drop l.its-index l.deeds)
      ≡ flat_map (corners_at l.layout l.axis) l.deeds;
  level : last_level l.layout l.level (drop l.its-index l.deeds) ≡ last_level l.layout None l.deeds;
}
