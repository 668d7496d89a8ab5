-- What holds of what two threads made.
use Rattle.std.proofs.Common.{◌≡◌, Result, Ok, Err, IfOk}
use Rattle.std.proofs.lemmas.Result.{IfOk-at_ok}

-- where each of two things that were made meets its own, both do together
pub both_hold : {E A B : Type 0} (first : Result A E) (second : Result B E) (result : Result (A × B) E)
    (P : A → Type 0) (Q : B → Type 0) → IfOk result (λ both. (first ≡ Ok both.0) × (second ≡ Ok both.1)) → IfOk first P
    → IfOk second Q → IfOk result (λ both. P both.0 × Q both.1)
both_hold first second (Ok both) P Q made p q = (IfOk-at_ok P made.0 p, IfOk-at_ok Q made.1 q)
both_hold first second (Err fault) P Q made p q = tt
