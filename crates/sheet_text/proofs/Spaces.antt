-- One space more.
use Rattle.std.proofs.Common.{◌≡◌, ◌∙◌, ◌+◌, ◌++◌, List, [], ◌∷◌, ℕ, ap}
use Rattle.std.proofs.lemmas.List.{append_assoc, replicate-append-replicate}
use Rattle.std.specs.Prelude.{replicate}

pub space_more : (before now : List ℕ) (n : ℕ) → now ≡ before ++ replicate n 32
    → now ++ 32 ∷ [] ≡ before ++ replicate (n + 1) 32
space_more before now n is =
    ap (λ (xs : List ℕ). xs ++ 32 ∷ []) is
    ∙ append_assoc before (replicate n 32) (32 ∷ [])
    ∙ ap (λ (xs : List ℕ). before ++ xs) (replicate-append-replicate n 1 32)
