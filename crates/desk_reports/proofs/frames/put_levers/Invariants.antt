use Rattle.std.proofs.Common.{◌≡◌, ◌++◌, drop, string_bytes}
use Rattle.std.specs.List.{flat_map}
use Rattle.desk_reports.specs.Frames.{lever_text}
use Rattle.desk_reports.proofs.frames.put_levers.Given as goal

abbrev pub invariant-loop-lever : goal.invariant-loop-lever
invariant-loop-lever l =
    string_bytes l.out ++ flat_map lever_text (drop l.lever-index l.levers)
    ≡ string_bytes l.fn.out ++ flat_map lever_text l.levers
