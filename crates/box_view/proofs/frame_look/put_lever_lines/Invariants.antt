use Rattle.std.proofs.Common.{◌≡◌, ◌++◌, string_bytes, take}
use Rattle.box_view.specs.Look.{lever_lines}
use Rattle.box_view.proofs.frame_look.put_lever_lines.Given as goal

abbrev pub invariant-loop-lever : goal.invariant-loop-lever
invariant-loop-lever l =
    string_bytes l.out ≡ string_bytes l.fn.out ++ lever_lines l.box_plan l.here (take l.lever-index l.levers)
