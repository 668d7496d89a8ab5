-- What the lines of a mended text are.
use Rattle.std.proofs.Common.{◌≡◌, ℕ, Bool, true, false, not, ◌&&◌, ◌||◌, cond, List, [], ◌∷◌, map}
use Rattle.std.proofs.Common.{refl, ap, ◌∙◌, arith}
use Rattle.std.specs.List.{list_all, list_any, join_with_byte}
use Rattle.std.proofs.lemmas.Bool.{eqb-true}
use Rattle.rail_text.proofs.PrintedLines.{both, lines_are, lines_of-printed, words_are, words_of-joined}
use Rattle.rail_text.specs.Forms.{is_skipped}
use Rattle.rail_text.specs.Lines.{Line, ended_line, is_empty_word, lacks, lines_of, words_of}
use Rattle.tidy_text.specs.Tidy.{blank_words, is_comment, is_tidy_line, spaced, tidy_line, tidy_text}
use Rattle.tidy_text.specs.Tidy.{without_marks, without_return}
use Rattle.tidy_text.proofs.Bytes.{no_end, no_return, no_tab, pair}
use Rattle.tidy_text.proofs.Words.{some_of}

pub some_all : (q : List ℕ → Bool) (words : List (List ℕ)) → list_all q words ≡ true → list_all q (some_of words) ≡ true
some_all q [] each = refl
some_all q (word ∷ words) each = let e = both _ _ each in go (is_empty_word word) e.0 (some_all q words e.1) where
  go : (t : Bool) → q word ≡ true → list_all q (some_of words) ≡ true
      → list_all q (cond (not t) (word ∷ some_of words) (some_of words)) ≡ true
  go true here rest = rest
  go false here rest = pair _ _ here rest

some_none : (words : List (List ℕ)) → list_any is_empty_word (some_of words) ≡ false
some_none [] = refl
some_none (word ∷ words) = go (is_empty_word word) refl (some_none words) where
  go : (t : Bool) → is_empty_word word ≡ t → list_any is_empty_word (some_of words) ≡ false
      → list_any is_empty_word (cond (not t) (word ∷ some_of words) (some_of words)) ≡ false
  go true is rest = rest
  go false is rest = rw (is, rest) refl

-- the words of a line have no space
pub no_space : (text : List ℕ) → list_all (lacks 32) (blank_words text) ≡ true
no_space text = some_all (lacks 32) (words_of (spaced text)) (words_are (spaced text)).single

joined : (words : List (List ℕ)) → list_all (lacks 32) words ≡ true → list_any is_empty_word words ≡ false
    → is_skipped (join_with_byte 32 words) || not (list_any is_empty_word (words_of (join_with_byte 32 words))) ≡ true
joined [] single none = refl
joined (word ∷ words) single none =
    let is : words_of (join_with_byte 32 (word ∷ words)) ≡ word ∷ words
    = words_of-joined (word ∷ words) (omega arith) single in
    go (is_skipped (join_with_byte 32 (word ∷ words)))
    (ap (λ (ws : List (List ℕ)). not (list_any is_empty_word ws)) is ∙ ap not none) where
      go : (t : Bool) → not (list_any is_empty_word (words_of (join_with_byte 32 (word ∷ words)))) ≡ true
          → t || not (list_any is_empty_word (words_of (join_with_byte 32 (word ∷ words)))) ≡ true
      go true e = refl
      go false e = e

comment : (text : List ℕ) → is_comment text ≡ true → is_skipped (spaced (without_return text)) ≡ true
comment [] e = absurd cc
comment (b ∷ []) e = let is : b ≡ 35 = eqb-true b 35 e in rw is refl
comment (b ∷ c ∷ bs) e = let is : b ≡ 35 = eqb-true b 35 e in rw is refl

no_gap : (text : List ℕ)
    → is_skipped (tidy_line text) || not (list_any is_empty_word (words_of (tidy_line text))) ≡ true
no_gap text = go (is_comment text) refl where
  go : (t : Bool) → is_comment text ≡ t
      → is_skipped (cond t (spaced (without_return text)) (join_with_byte 32 (blank_words text)))
      || not (list_any is_empty_word (words_of
      (cond t (spaced (without_return text)) (join_with_byte 32 (blank_words text))))) ≡ true
  go true e = rw (comment text e) refl
  go false e = joined (blank_words text) (no_space text) (some_none (words_of (spaced text)))

-- a mended line is tidy
tidy_is_tidy : (text : List ℕ) → is_tidy_line (tidy_line text) ≡ true
tidy_is_tidy text = pair _ _ (pair _ _ (no_tab text) (no_return text)) (no_gap text)

mended_single : (lines : List Line) → list_all (λ line. lacks 10 line.text) lines ≡ true
    → list_all (lacks 10) (map (λ line. tidy_line line.text) lines) ≡ true
mended_single [] each = refl
mended_single (line ∷ lines) each =
    let e = both _ _ each in pair _ _ (no_end line.text e.0) (mended_single lines e.1)

-- the lines of a mended text
pub mended_lines : (bytes : List ℕ)
    → lines_of (tidy_text bytes) ≡ map ended_line (map (λ line. tidy_line line.text) (lines_of (without_marks bytes)))
mended_lines bytes =
    let lines = lines_of (without_marks bytes) in
    lines_of-printed (map (λ line. tidy_line line.text) lines)
    (mended_single lines (lines_are (without_marks bytes)).single)

texts_of : (texts : List (List ℕ)) → map (λ line. line.text) (map ended_line texts) ≡ texts
texts_of [] = refl
texts_of (text ∷ texts) = ap (λ (ts : List (List ℕ)). text ∷ ts) (texts_of texts)

-- the lines of a mended text are those of the text without marks in front, each mended
pub mended_texts : (bytes : List ℕ) → map (λ line. line.text) (lines_of (tidy_text bytes))
    ≡ map (λ line. tidy_line line.text) (lines_of (without_marks bytes))
mended_texts bytes = rw (mended_lines bytes) (texts_of _)

all_tidy : (lines : List Line)
    → list_all (λ line. line.ended && is_tidy_line line.text) (map ended_line (map (λ line. tidy_line line.text) lines))
    ≡ true
all_tidy [] = refl
all_tidy (line ∷ lines) = pair _ _ (tidy_is_tidy line.text) (all_tidy lines)

-- each line of a mended text is tidy and has its end
pub mended_tidy : (bytes : List ℕ)
    → list_all (λ line. line.ended && is_tidy_line line.text) (lines_of (tidy_text bytes)) ≡ true
mended_tidy bytes = rw (mended_lines bytes) (all_tidy (lines_of (without_marks bytes)))
