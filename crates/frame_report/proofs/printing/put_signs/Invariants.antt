use Rattle.std.proofs.Common.{◌≡◌, ◌++◌, drop, string_bytes}
use Rattle.std.specs.List.{flat_map}
use Rattle.frame_report.specs.declared.report.PairReport.{PairReport}
use Rattle.frame_report.specs.Text.{sign_with}
use Rattle.frame_report.proofs.printing.put_signs.Given as goal

abbrev pub invariant-loop-pair : goal.invariant-loop-pair
invariant-loop-pair l =
    string_bytes l.out
    ++ flat_map (λ (pair : PairReport). sign_with pair.has_way pair.finding) (drop l.pair-index l.pairs)
    ≡ string_bytes l.fn.out ++ flat_map (λ (pair : PairReport). sign_with pair.has_way pair.finding) l.pairs
