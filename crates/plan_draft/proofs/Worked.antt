-- Levers of a row, from left to right.
use Rattle.std.proofs.Common.{◌≡◌, ℕ, List, ◌∷◌, Result, Ok}
use Rattle.rail_text.specs.declared.cause.Cause.{Cause}
use Rattle.plan_draft.specs.BoxLines.{all_worked, worked}
use Rattle.line_plan.specs.Frames.{BoxFields, kind_of}

-- behind a lever that is so, those behind it decide
pub worked_rest : (b : BoxFields) (n : ℕ) (ns : List ℕ) (u : Unit {0}) (r : Result (Unit {0}) Cause)
    → Ok u ≡ worked (kind_of b n) → r ≡ all_worked b ns → r ≡ all_worked b (n ∷ ns)
unfolding all_worked
worked_rest b n ns u r e h = rw (← e) h
