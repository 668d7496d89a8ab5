use Rattle.std.proofs.Common.{◌≡◌, ◌++◌, drop, string_bytes}
use Rattle.line_report.specs.Between.{pairs_text}
use Rattle.line_report.proofs.sections.put_pairs.Given as goal

abbrev pub invariant-loop-pair : goal.invariant-loop-pair
invariant-loop-pair l = string_bytes l.out ++ pairs_text l.plan l.pair (drop l.pair l.trains)
    ≡ string_bytes l.fn.out ++ pairs_text l.plan 0 l.trains
