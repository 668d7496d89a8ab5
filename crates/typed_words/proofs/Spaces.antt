-- Words between spaces.
use Rattle.std.proofs.Common.{◌≡◌, ℕ, suc, false, List, [], ◌∷◌, ◌++◌, cond, length, nat_eq, refl, sym, ap, ◌∙◌, arith}
use Rattle.std.specs.List.{flat_map, join_with_byte, slice_split, onto_first}
use Rattle.std.proofs.lemmas.Bool.Decides.{nat_tests}
use Rattle.std.proofs.lemmas.List.{append-nil}
use Rattle.rail_text.specs.Lines.{is_empty_word, onto_word, words_of}
use Rattle.typed_words.specs.Lines.{spaced_word}

some_is : (n : ℕ) → nat_eq (suc n) 0 ≡ false
some_is n = grind (arith, nat_tests)

-- an empty word is one of no bytes
pub empty_is : (word : List ℕ) → is_empty_word word ≡ nat_eq (length word) 0
empty_is [] = refl
empty_is (b ∷ bs) = sym (some_is (length bs))

onto_is : (b : ℕ) (words : List (List ℕ)) → onto_first b words ≡ onto_word b words
onto_is b [] = refl
onto_is b (word ∷ words) = refl

-- what std cuts at a space
pub split_is_words : (bs : List ℕ) → slice_split (λ b. nat_eq b 32) bs ≡ words_of bs
split_is_words [] = refl
split_is_words (b ∷ bs) =
    ap (λ (words : List (List ℕ)). cond (nat_eq b 32) ([] ∷ words) (onto_first b words)) (split_is_words bs)
    ∙ ap (λ (words : List (List ℕ)). cond (nat_eq b 32) ([] ∷ words_of bs) words) (onto_is b (words_of bs))

-- words behind a first, each with a space in front, are joined by spaces
pub joined_is : (first : List ℕ) (words : List (List ℕ))
    → first ++ flat_map spaced_word words ≡ join_with_byte 32 (first ∷ words)
joined_is first [] = append-nil first
joined_is first (word ∷ words) = ap (λ (rest : List ℕ). first ++ (32 ∷ rest)) (joined_is word words)
