-- The words of a text.
use Rattle.std.proofs.Common.{◌≡◌, ℕ, ◌<◌, ◌^◌, Bool, true, false, not, ◌&&◌, ◌==◌, cond, eqb, List, [], ◌∷◌, ◌++◌}
use Rattle.std.proofs.Common.{Option, Some, None, refl, ap, sym, ◌∙◌, arith, decimal}
use Rattle.std.specs.Prelude.{is_some}
use Rattle.std.specs.Char.{is_ascii_digit}
use Rattle.std.specs.List.{list_all}
use Rattle.std.specs.Option.{option_map}
use Rattle.std.specs.Str.{all_ascii_digits}
use Rattle.std.proofs.lemmas.Bool.Decides.{nat_tests}
use Rattle.std.proofs.lemmas.Fmt.{digits_decimal}
use Rattle.std.proofs.lemmas.List.{append-nil}
use Rattle.locking_table.specs.Reading.{has_no_word}
use Rattle.locking_table.specs.Words.{cut_of, joined, onto_word, spaced, words_after, words_of}
use Rattle.locking_table.proofs.LeverWords.{own}

-- one step of each, by the answer of its test

abbrev cut_step : Bool → ℕ → List ℕ → List ℕ × Option (List ℕ)
cut_step t b bs = cond t ([], Some bs) (b ∷ (cut_of bs).0, (cut_of bs).1)

abbrev words_step : Bool → ℕ → List ℕ → List (List ℕ)
words_step t b bs = cond t ([] ∷ words_of bs) (onto_word b (words_of bs))

words-cut-step : (t : Bool) (b : ℕ) (bs : List ℕ) → words_of bs ≡ (cut_of bs).0 ∷ words_after (cut_of bs).1
    → words_step t b bs ≡ (cut_step t b bs).0 ∷ words_after (cut_step t b bs).1
words-cut-step true b bs ih = refl
words-cut-step false b bs ih = ap (onto_word b) ih

-- the first word is what stands before the first space
pub words-cut : (bytes : List ℕ) → words_of bytes ≡ (cut_of bytes).0 ∷ words_after (cut_of bytes).1
words-cut [] = refl
words-cut (b ∷ bs) = words-cut-step (eqb b 32) b bs (words-cut bs)

pub ruleset word_rules = (words-cut)

some_word : (words : List (List ℕ)) (word : List ℕ) (more : List (List ℕ)) → words ≡ word ∷ more
    → has_no_word words ≡ false
some_word words word more e = rw e refl

-- no word is left exactly where nothing is
pub no_word : {A : Type 0} (text : A → List ℕ) (rest : Option A) (none : Bool) → not none ≡ is_some rest
    → none ≡ has_no_word (words_after (option_map text rest))
no_word text None true e = refl
no_word text None false e = cc
no_word text (Some rest) true e = cc
no_word text (Some rest) false e =
    sym (some_word (words_of (text rest)) (cut_of (text rest)).0 (words_after (cut_of (text rest)).1)
    (words-cut (text rest)))

-- ---- words and their text

-- there is no space in the word
abbrev pub has_no_space : List ℕ → Bool
has_no_space word = list_all (λ b. not (b == 32)) word

space_step : (b : ℕ) (t : Bool) (rest : List (List ℕ)) (words : List (List ℕ)) → t ≡ false → cond t rest words ≡ words
space_step b true rest words h = cc
space_step b false rest words h = refl

not_space : (t more : Bool) → (not t && more) ≡ true → (t ≡ false) × (more ≡ true)
not_space true more h = cc
not_space false more h = (refl, h)

-- one word alone, and a word in front of a space
pub words_of-one : (word : List ℕ) → has_no_space word ≡ true → words_of word ≡ word ∷ []
words_of-one [] h = refl
words_of-one (b ∷ bs) h =
    let p = not_space (b == 32) (has_no_space bs) h in
    space_step b (b == 32) ([] ∷ words_of bs) (onto_word b (words_of bs)) p.0 ∙ ap (onto_word b) (words_of-one bs p.1)

pub words_of-more : (word rest : List ℕ) → has_no_space word ≡ true
    → words_of (word ++ 32 ∷ rest) ≡ word ∷ words_of rest
words_of-more [] rest h = refl
words_of-more (b ∷ bs) rest h =
    let p = not_space (b == 32) (has_no_space bs) h in
    space_step b (b == 32) ([] ∷ words_of (bs ++ 32 ∷ rest)) (onto_word b (words_of (bs ++ 32 ∷ rest))) p.0
    ∙ ap (onto_word b) (words_of-more bs rest p.1)

both_words : (a b : Bool) → (a && b) ≡ true → (a ≡ true) × (b ≡ true)
both_words true b h = (refl, h)
both_words false b h = cc

-- the words of a joined text are those that were joined
pub words_of-joined : (word : List ℕ) (words : List (List ℕ)) → list_all has_no_space (word ∷ words) ≡ true
    → words_of (joined (word ∷ words)) ≡ word ∷ words
words_of-joined word [] h =
    let p = both_words (has_no_space word) true h in ap words_of (append-nil word) ∙ words_of-one word p.0
words_of-joined word (next ∷ words) h =
    let p = both_words (has_no_space word) (list_all has_no_space (next ∷ words)) h in
    words_of-more word (joined (next ∷ words)) p.0
    ∙ ap (λ (ws : List (List ℕ)). word ∷ ws) (words_of-joined next words p.1)

-- the text of all words of a text is that text

onto_joined : (b : ℕ) (words : List (List ℕ)) (word : List ℕ) (more : List (List ℕ)) → words ≡ word ∷ more
    → joined (onto_word b words) ≡ b ∷ joined words
onto_joined b words word more e = rw e refl

spaced_joined : (words : List (List ℕ)) (word : List ℕ) (more : List (List ℕ)) → words ≡ word ∷ more
    → spaced words ≡ 32 ∷ joined words
spaced_joined words word more e = rw e refl

joined_step : (b : ℕ) (bs : List ℕ) (t : Bool) → (t ≡ true → b ≡ 32) → joined (words_of bs) ≡ bs
    → joined (words_step t b bs) ≡ b ∷ bs
joined_step b bs true is ih =
    spaced_joined (words_of bs) (cut_of bs).0 (words_after (cut_of bs).1) (words-cut bs)
    ∙ (ap (λ (l : List ℕ). 32 ∷ l) ih ∙ ap (λ (x : ℕ). x ∷ bs) (sym (is refl)))
joined_step b bs false is ih =
    onto_joined b (words_of bs) (cut_of bs).0 (words_after (cut_of bs).1) (words-cut bs) ∙ ap (λ (l : List ℕ). b ∷ l) ih

-- the words of a text, with single spaces between them, are the text
pub joined-words_of : (text : List ℕ) → joined (words_of text) ≡ text
joined-words_of [] = refl
joined-words_of (b ∷ bs) = joined_step b bs (eqb b 32) (λ h. grind (arith, nat_tests)) (joined-words_of bs)

-- a printed number has no space in it
digit_no_space : (c : ℕ) → is_ascii_digit c ≡ true → not (c == 32) ≡ true
digit_no_space c h = grind (arith, nat_tests)

digits_no_space : (cs : List ℕ) → all_ascii_digits cs ≡ true → has_no_space cs ≡ true
digits_no_space [] h = refl
digits_no_space (c ∷ cs) h =
    let p = both_words (is_ascii_digit c) (all_ascii_digits cs) h in
    let here = digit_no_space c p.0 in let more = digits_no_space cs p.1 in rw (here, more) refl

-- there is no space in a printed number
pub decimal_no_space : (n : ℕ) → n < 2 ^ 64 → has_no_space (decimal n) ≡ true
decimal_no_space n small = digits_no_space (decimal n) (digits_decimal own n small)
