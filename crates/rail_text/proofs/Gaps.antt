-- A word is empty where a space stands at an end or beside another.
use Rattle.std.proofs.Common.{◌≡◌, ℕ, Bool, true, false, cond, eqb, ◌&&◌, ◌||◌, List, [], ◌∷◌, refl, sym, ◌∙◌}
use Rattle.std.specs.List.{list_any}
use Rattle.rail_text.specs.Cutting.{gap}
use Rattle.rail_text.specs.Lines.{words_of, onto_word}
use Rattle.rail_text.specs.Forms.{is_empty_word}

abbrev first_empty : List (List ℕ) → Bool
first_empty [] = false
first_empty (word ∷ words) = is_empty_word word

abbrev later_empty : List (List ℕ) → Bool
later_empty [] = false
later_empty (word ∷ words) = list_any is_empty_word words

any_is : (words : List (List ℕ)) → list_any is_empty_word words ≡ first_empty words || later_empty words
any_is [] = refl
any_is (word ∷ words) = refl

later_onto : (b : ℕ) (words : List (List ℕ)) → later_empty (onto_word b words) ≡ later_empty words
later_onto b [] = refl
later_onto b (word ∷ words) = refl

first_onto : (b : ℕ) (words : List (List ℕ)) → first_empty (onto_word b words) ≡ false
first_onto b [] = refl
first_onto b (word ∷ words) = refl

gap_step : (t empty : Bool) (b : ℕ) (bs : List ℕ)
    → gap true bs ≡ first_empty (words_of bs) || later_empty (words_of bs) → gap false bs ≡ later_empty (words_of bs)
    → cond t (empty || gap true bs) (gap false bs)
    ≡ (empty && first_empty (cond t ([] ∷ words_of bs) (onto_word b (words_of bs))))
    || later_empty (cond t ([] ∷ words_of bs) (onto_word b (words_of bs)))
gap_step true true b bs at_start inside = refl
gap_step true false b bs at_start inside = at_start ∙ sym (any_is (words_of bs))
gap_step false true b bs at_start inside = rw (first_onto b (words_of bs), later_onto b (words_of bs)) inside
gap_step false false b bs at_start inside = rw (later_onto b (words_of bs)) inside

gap_is : (empty : Bool) (bs : List ℕ) → gap empty bs ≡ (empty && first_empty (words_of bs)) || later_empty (words_of bs)
gap_is true [] = refl
gap_is false [] = refl
gap_is empty (b ∷ bs) = gap_step (eqb b 32) empty b bs (gap_is true bs) (gap_is false bs)

-- looked through byte by byte, a text is found to have an empty word exactly where one of its words is empty
pub gap_any : (text : List ℕ) → gap true text ≡ list_any is_empty_word (words_of text)
gap_any text = gap_is true text ∙ sym (any_is (words_of text))
