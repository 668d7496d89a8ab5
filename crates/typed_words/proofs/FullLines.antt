-- Words in full, one behind another.
use Rattle.std.proofs.Common.{◌≡◌, ℕ, List, [], ◌∷◌, ◌++◌, Result, Ok, Err, refl, sym, ap, append_assoc}
use Rattle.rail_text.specs.Gives.{◌>>=◌}
use Rattle.typed_words.specs.Chosen.{Misread}
use Rattle.typed_words.specs.Lines.{onto_full}

-- a word more stands already
pub onto_next : (front : List (List ℕ)) (word : List ℕ) (read : Result (List (List ℕ)) Misread)
    → onto_full front (read >>= (λ rest. Ok (word ∷ rest))) ≡ onto_full (front ++ word ∷ []) read
onto_next front word (Ok rest) = ap Ok (sym (append_assoc front (word ∷ []) rest))
onto_next front word (Err what) = refl

-- one word stands already
pub onto_one : (word : List ℕ) (read : Result (List (List ℕ)) Misread)
    → onto_full (word ∷ []) read ≡ read >>= (λ rest. Ok (word ∷ rest))
onto_one word (Ok rest) = refl
onto_one word (Err what) = refl
