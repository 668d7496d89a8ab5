use Rattle.std.proofs.Common.{◌≡◌, ◌++◌, drop}
use Rattle.line_scene.specs.Boxes.{levers_shown}
use Rattle.line_scene.proofs.box_shown.add_levers.Given as goal

abbrev pub invariant-loop-lever : goal.invariant-loop-lever
invariant-loop-lever l =
    l.shown.items ++ levers_shown l.box_no l.ends (drop l.lever-index l.levers)
    ≡ l.fn.shown.items ++ levers_shown l.box_no l.ends l.levers
