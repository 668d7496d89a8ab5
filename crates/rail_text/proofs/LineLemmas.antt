-- The first line of a text, and the words of a line.
use Rattle.std.proofs.Common.{◌≡◌, ℕ, ◌+◌, ◌<◌, Bool, true, false, cond, eqb, List, [], ◌∷◌, length, count_by, Option}
use Rattle.std.proofs.Common.{Some, None, refl, ap, sym, ◌∙◌, arith}
use Rattle.std.proofs.lemmas.List.Sums.{sum_by-cons}
use Rattle.rail_text.specs.Lines.{cut_of, Line, lines_of, onto_line, words_of, onto_word, words_after}

abbrev line : List ℕ → Bool → Line
line text ended = record { text = text; ended = ended }

-- one step of `cut_of`, by the answer of its test
abbrev cut_step : ℕ → Bool → ℕ → List ℕ → List ℕ × Option (List ℕ)
cut_step at t b bs = cond t ([], Some bs) (b ∷ (cut_of at bs).0, (cut_of at bs).1)

cut-fewer-step : (at : ℕ) (t : Bool) (b : ℕ) (bs rest : List ℕ)
    → ((cut_of at bs).1 ≡ Some rest → length rest < length bs) → (cut_step at t b bs).1 ≡ Some rest
    → length rest < length (b ∷ bs)
cut-fewer-step at true b bs rest ih e = let p : bs ≡ rest = cc in omega (arith, ap length p)
cut-fewer-step at false b bs rest ih e = omega (arith, ih e)

-- what stands behind the first such byte is shorter than the text
pub cut-fewer : (at : ℕ) (bytes rest : List ℕ) → (cut_of at bytes).1 ≡ Some rest → length rest < length bytes
cut-fewer at [] rest e = absurd cc
cut-fewer at (b ∷ bs) rest e = cut-fewer-step at (eqb b at) b bs rest (cut-fewer at bs rest) e

abbrev lines_step : Bool → ℕ → List ℕ → List Line
lines_step t b bs = cond t (line [] true ∷ lines_of bs) (onto_line b (lines_of bs))

lines-cut-step : (t : Bool) (b : ℕ) (bs rest : List ℕ)
    → ((cut_of 10 bs).1 ≡ Some rest → lines_of bs ≡ line (cut_of 10 bs).0 true ∷ lines_of rest)
    → (cut_step 10 t b bs).1 ≡ Some rest → lines_step t b bs ≡ line (cut_step 10 t b bs).0 true ∷ lines_of rest
lines-cut-step true b bs rest ih e = let p : bs ≡ rest = cc in ap (λ (r : List ℕ). line [] true ∷ lines_of r) p
lines-cut-step false b bs rest ih e = ap (onto_line b) (ih e)

-- where a text has a line end, its lines are what stands before the first one, and then the lines of the rest
pub lines-cut : (bytes rest : List ℕ) → (cut_of 10 bytes).1 ≡ Some rest
    → lines_of bytes ≡ line (cut_of 10 bytes).0 true ∷ lines_of rest
lines-cut [] rest e = absurd cc
lines-cut (b ∷ bs) rest e = lines-cut-step (eqb b 10) b bs rest (lines-cut bs rest) e

-- with no line end left, all is one line
lines-last-step : (t : Bool) (b : ℕ) (bs : List ℕ)
    → ((cut_of 10 bs).1 ≡ None → onto_line b (lines_of bs) ≡ line (b ∷ (cut_of 10 bs).0) false ∷ [])
    → (cut_step 10 t b bs).1 ≡ None → lines_step t b bs ≡ line (cut_step 10 t b bs).0 false ∷ []
lines-last-step true b bs ih e = absurd cc
lines-last-step false b bs ih e = ih e

onto-last : (b : ℕ) (bytes : List ℕ) → (cut_of 10 bytes).1 ≡ None
    → onto_line b (lines_of bytes) ≡ line (b ∷ (cut_of 10 bytes).0) false ∷ []
onto-last b [] e = refl
onto-last b (a ∷ bs) e = ap (onto_line b) (lines-last-step (eqb a 10) a bs (onto-last a bs) e)

-- a text that has bytes and no line end is one line, without an end
pub lines-last : (bytes : List ℕ) → 0 < length bytes → (cut_of 10 bytes).1 ≡ None
    → lines_of bytes ≡ line (cut_of 10 bytes).0 false ∷ []
lines-last [] some e = absurd (omega arith)
lines-last (b ∷ bs) some e = lines-last-step (eqb b 10) b bs (onto-last b bs) e

-- ---- words

abbrev words_step : Bool → ℕ → List ℕ → List (List ℕ)
words_step t b bs = cond t ([] ∷ words_of bs) (onto_word b (words_of bs))

words-cut-step : (t : Bool) (b : ℕ) (bs : List ℕ) → words_of bs ≡ (cut_of 32 bs).0 ∷ words_after (cut_of 32 bs).1
    → words_step t b bs ≡ (cut_step 32 t b bs).0 ∷ words_after (cut_step 32 t b bs).1
words-cut-step true b bs ih = refl
words-cut-step false b bs ih = ap (onto_word b) ih

-- the words of a line are what stands before its first space, and then the words of the rest
pub words-cut : (bytes : List ℕ) → words_of bytes ≡ (cut_of 32 bytes).0 ∷ words_after (cut_of 32 bytes).1
words-cut [] = refl
words-cut (b ∷ bs) = words-cut-step (eqb b 32) b bs (words-cut bs)

length-onto_word : (b : ℕ) (words : List (List ℕ)) → 0 < length words → length (onto_word b words) ≡ length words
length-onto_word b [] some = absurd (omega arith)
length-onto_word b (word ∷ words) some = refl

length-words-step : (t : Bool) (b : ℕ) (bs : List ℕ) (spaces : ℕ) → 0 < length (words_of bs)
    → length (words_of bs) ≡ spaces + 1 → length (words_step t b bs) ≡ cond t 1 0 + spaces + 1
length-words-step true b bs spaces some ih = omega arith
length-words-step false b bs spaces some ih = omega (arith, length-onto_word b (words_of bs) some)

-- a line has one word more than spaces
pub length-words_of : (bytes : List ℕ) → length (words_of bytes) ≡ count_by (λ b. eqb b 32) bytes + 1
length-words_of [] = refl
length-words_of (b ∷ bs) =
    let some : 0 < length (words_of bs) = omega (arith, ap length (words-cut bs)) in
    length-words-step (eqb b 32) b bs (count_by (λ x. eqb x 32) bs) some (length-words_of bs)
    ∙ ap (λ (n : ℕ). n + 1) (sym (sum_by-cons (λ x. cond (eqb x 32) 1 0) b bs))
