use Rattle.std.proofs.Common.{◌≡◌, ◌++◌, drop, string_bytes}
use Rattle.frame_report.specs.Text.{pairs_text}
use Rattle.frame_report.proofs.printing.put_pairs.Given as goal

abbrev pub invariant-loop-k : goal.invariant-loop-k
invariant-loop-k l = string_bytes l.out ++ pairs_text l.numbers l.number l.k (drop l.k l.pairs)
    ≡ string_bytes l.initial.out ++ pairs_text l.numbers l.number 0 l.pairs
