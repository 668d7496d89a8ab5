use Rattle.std.proofs.Common.{◌≡◌, ◌++◌, drop, string_bytes}
use Rattle.std.specs.List.{flat_map}
use Rattle.frame_report.specs.Text.{digit_text}
use Rattle.frame_report.proofs.printing.put_each_digit.Given as goal

abbrev pub invariant-loop-number : goal.invariant-loop-number
invariant-loop-number l = string_bytes l.out ++ flat_map (digit_text l.power) (drop l.number-index l.numbers)
    ≡ string_bytes l.fn.out ++ flat_map (digit_text l.power) l.numbers
