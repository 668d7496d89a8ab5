use Rattle.std.proofs.Common.{◌≡◌, ◌++◌, drop}
use Rattle.line_scene.specs.Boxes.{arms_shown}
use Rattle.line_scene.proofs.box_shown.add_arms.Given as goal

abbrev pub invariant-loop-at : goal.invariant-loop-at
invariant-loop-at l =
    l.shown.items ++ arms_shown l.box_no l.diagram l.off l.at (drop l.at l.signals)
    ≡ l.fn.shown.items ++ arms_shown l.box_no l.diagram l.off 0 l.signals
