-- The words of a line as they are put one after another, blank by blank.
use Rattle.std.proofs.Common.{◌≡◌, ℕ, Bool, true, false, not, ◌&&◌, ◌||◌, cond, eqb, List, [], ◌∷◌, ◌++◌}
use Rattle.std.proofs.Common.{◌≤◌, drop, filter, length}
use Rattle.std.proofs.Common.{refl, sym, ap, ◌∙◌}
use Rattle.std.specs.List.{join_with_byte}
use Rattle.std.proofs.lemmas.List.{append-nil, drop_all}
use Rattle.rail_text.specs.Lines.{is_empty_word, onto_word, words_of}
use Rattle.tidy_text.specs.Tidy.{blank_words, is_blank, spaced}

-- where it isn't so that one of two tests holds, neither does
pub neither : (a b : Bool) → a || b ≡ false → (a ≡ false) × (b ≡ false)
neither true b e = absurd cc
neither false b e = (refl, e)

-- the words that aren't empty
abbrev pub some_of : List (List ℕ) → List (List ℕ)
some_of words = filter (λ word. not (is_empty_word word)) words

-- what is put of a text, where a word was put or not, and a blank has come since or not
abbrev pub put_from : Bool → Bool → List ℕ → List ℕ
put_from has_word has_blank [] = []
put_from has_word has_blank (b ∷ bs) =
    cond (is_blank b) (put_from has_word true bs)
    (cond (has_word && has_blank) (32 ∷ b ∷ put_from true false bs) (b ∷ put_from true false bs))

-- further words, each behind a space
abbrev behind : List (List ℕ) → List ℕ
behind [] = []
behind (word ∷ words) = 32 ∷ join_with_byte 32 (word ∷ words)

-- the rest of a word, and the words behind it
abbrev inside : List (List ℕ) → List ℕ
inside [] = []
inside (word ∷ words) = word ++ behind (some_of words)

join_first : (word : List ℕ) (words : List (List ℕ)) → join_with_byte 32 (word ∷ words) ≡ word ++ behind words
join_first word [] = sym (append-nil word)
join_first word (next ∷ words) = refl

join_onto : (b : ℕ) (words : List (List ℕ)) → join_with_byte 32 (some_of (onto_word b words)) ≡ b ∷ inside words
join_onto b [] = refl
join_onto b (word ∷ words) = join_first (b ∷ word) (some_of words)

behind_onto : (b : ℕ) (words : List (List ℕ)) → behind (some_of (onto_word b words)) ≡ 32 ∷ b ∷ inside words
behind_onto b [] = refl
behind_onto b (word ∷ words) = ap (λ (xs : List ℕ). 32 ∷ xs) (join_first (b ∷ word) (some_of words))

inside_onto : (b : ℕ) (words : List (List ℕ)) → inside (onto_word b words) ≡ b ∷ inside words
inside_onto b [] = refl
inside_onto b (word ∷ words) = refl

-- what is put is the words, where none was put, where a blank stands behind one, and within one
record Puts (bs : List ℕ) : Type 0 where
  none : (has_blank : Bool) → put_from false has_blank bs ≡ join_with_byte 32 (blank_words bs)
  behind_blank : put_from true true bs ≡ behind (blank_words bs)
  within : put_from true false bs ≡ inside (words_of (spaced bs))

no_space : (b : ℕ) → is_blank b ≡ false → eqb b 32 ≡ false
no_space b e = (neither _ _ e).1

puts_step : (t : Bool) (b : ℕ) (bs : List ℕ) → is_blank b ≡ t → Puts bs → Puts (b ∷ bs)
puts_step true b bs is p = record {
  none = λ has_blank. rw is (p.none true);
  behind_blank = rw is p.behind_blank;
  within = rw is p.behind_blank;
}
puts_step false b bs is p =
    let other : eqb b 32 ≡ false = no_space b is in
    let put : b ∷ put_from true false bs ≡ b ∷ inside (words_of (spaced bs)) = ap (λ (xs : List ℕ). b ∷ xs) p.within in
    record {
      none = λ has_blank. rw (is, other) (put ∙ sym (join_onto b (words_of (spaced bs))));
      behind_blank = rw (is, other) (ap (λ (xs : List ℕ). 32 ∷ xs) put ∙ sym (behind_onto b (words_of (spaced bs))));
      within = rw (is, other) (put ∙ sym (inside_onto b (words_of (spaced bs))));
    }

puts : (bs : List ℕ) → Puts bs
puts [] = record { none = λ has_blank. refl; behind_blank = refl; within = refl }
puts (b ∷ bs) = puts_step (is_blank b) b bs refl (puts bs)

-- put one after another, blank by blank, the words of a line have single spaces between them
pub puts_words : (text : List ℕ) → put_from false false text ≡ join_with_byte 32 (blank_words text)
puts_words text = (puts text).none false

-- behind the whole text nothing is put
pub put_end : (out : List ℕ) (has_word has_blank : Bool) (at : ℕ) (text : List ℕ) → length text ≤ at
    → out ++ put_from has_word has_blank (drop at text) ≡ out
put_end out has_word has_blank at text all = rw (drop_all at text all) (append-nil out)
