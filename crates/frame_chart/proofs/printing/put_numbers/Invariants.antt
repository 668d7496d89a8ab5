use Rattle.std.proofs.Common.{◌≡◌, ◌∷◌, ◌++◌, decimal, drop, string_bytes}
use Rattle.std.specs.List.{flat_map}
use Rattle.frame_chart.proofs.printing.put_numbers.Given as goal

abbrev pub invariant-loop-number : goal.invariant-loop-number
invariant-loop-number l =
    string_bytes l.out ++ flat_map (λ number. 32 ∷ decimal number) (drop l.number-index l.numbers)
    ≡ string_bytes l.fn.out ++ flat_map (λ number. 32 ∷ decimal number) l.numbers
