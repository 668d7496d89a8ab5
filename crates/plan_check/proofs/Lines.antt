-- Texts that are put piece by piece.
use Rattle.std.proofs.Common.{◌≡◌, List, ℕ, ◌++◌, sym, ap, ◌∙◌, append_assoc}

-- a head, and then a number between two words
pub number_between : (old mid new head word number last : List ℕ) → mid ≡ old ++ head
    → new ≡ mid ++ (word ++ (number ++ last)) → new ≡ old ++ (head ++ word ++ number ++ last)
number_between old mid new head word number last e h =
    h ∙ ap (λ (xs : List ℕ). xs ++ (word ++ (number ++ last))) e
    ∙ append_assoc old head (word ++ (number ++ last))
    ∙ ap (λ (xs : List ℕ). old ++ xs)
    (sym (append_assoc head word (number ++ last)) ∙ sym (append_assoc (head ++ word) number last))
