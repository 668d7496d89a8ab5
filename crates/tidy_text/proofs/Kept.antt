-- What mending a text keeps.
use Rattle.std.proofs.Common.{◌≡◌, ℕ, ◌<◌, Bool, true, false, not, ◌&&◌, ◌||◌, cond, eqb, List, [], ◌∷◌, ◌++◌, length}
use Rattle.std.proofs.Common.{refl, sym, ap, ◌∙◌}
use Rattle.std.specs.List.{list_all, list_any, flat_map, join_with_byte}
use Rattle.std.proofs.lemmas.Bool.{eqb-true}
use Rattle.rail_text.proofs.PrintedLines.{both, joined-words_of, lines_are, not_true, words_of-joined}
use Rattle.rail_text.specs.Forms.{is_skipped}
use Rattle.rail_text.specs.Lines.{Line, is_empty_word, lacks, line_bytes, lines_of, printed_line, words_of}
use Rattle.tidy_text.specs.Tidy.{blank_words, has_mark, is_blank, is_comment, is_tidy, is_tidy_line, spaced, tidy_line}
use Rattle.tidy_text.specs.Tidy.{tidy_lines, tidy_text, without_marks, without_return}
use Rattle.tidy_text.proofs.Mended.{no_space}
use Rattle.tidy_text.proofs.Words.{neither, some_of}

-- a line that is no comment keeps its words
pub kept_words : (text : List ℕ) → is_comment text ≡ false → 0 < length (blank_words text)
    → words_of (tidy_line text) ≡ blank_words text
kept_words text plain some = go (is_comment text) plain where
  go : (t : Bool) → t ≡ false
      → words_of (cond t (spaced (without_return text)) (join_with_byte 32 (blank_words text))) ≡ blank_words text
  go true e = absurd cc
  go false e = words_of-joined (blank_words text) some (no_space text)

-- ---- a tidy text

same_byte : (b : ℕ) → eqb b 9 ≡ false → eqb b 13 ≡ false → cond (is_blank b) 32 b ≡ b
same_byte b tab return = rw (tab, return) (go (eqb b 32) refl) where
  go : (t : Bool) → eqb b 32 ≡ t → cond t 32 b ≡ b
  go true e = sym (eqb-true b 32 e)
  go false e = refl

same_bytes : (text : List ℕ) → lacks 9 text ≡ true → lacks 13 text ≡ true → spaced text ≡ text
same_bytes [] tab return = refl
same_bytes (b ∷ bs) tab return =
    let t = both _ _ tab in let r = both _ _ return in
    rw (same_byte b (not_true _ t.0) (not_true _ r.0), same_bytes bs t.1 r.1) refl

same_end : (text : List ℕ) → lacks 13 text ≡ true → without_return text ≡ text
same_end [] return = refl
same_end (b ∷ []) return = let other : eqb b 13 ≡ false = not_true _ (both _ _ return).0 in rw other refl
same_end (b ∷ c ∷ bs) return = ap (λ (xs : List ℕ). b ∷ xs) (same_end (c ∷ bs) (both _ _ return).1)

all_some : (words : List (List ℕ)) → list_any is_empty_word words ≡ false → some_of words ≡ words
all_some [] none = refl
all_some (word ∷ words) none =
    let n : (is_empty_word word ≡ false) × (list_any is_empty_word words ≡ false) = neither _ _ none in
    rw (n.0, all_some words n.1) refl

plain_words : (text : List ℕ) → is_comment text ≡ false
    → is_skipped text || not (list_any is_empty_word (words_of text)) ≡ true
    → join_with_byte 32 (some_of (words_of text)) ≡ text
plain_words [] plain tidy = refl
plain_words (b ∷ bs) plain tidy =
    let read : not (list_any is_empty_word (words_of (b ∷ bs))) ≡ true
    = ap (λ (t : Bool). t || not (list_any is_empty_word (words_of (b ∷ bs)))) (sym plain) ∙ tidy in
    ap (join_with_byte 32) (all_some (words_of (b ∷ bs)) (not_true _ read)) ∙ joined-words_of (b ∷ bs)

same_line : (text : List ℕ) → is_tidy_line text ≡ true → tidy_line text ≡ text
same_line text tidy =
    let t = both _ _ tidy in let l = both _ _ t.0 in
    go (is_comment text) refl (same_bytes text l.0 l.1) (same_end text l.1) t.1 where
      go : (t : Bool) → is_comment text ≡ t → spaced text ≡ text → without_return text ≡ text
          → is_skipped text || not (list_any is_empty_word (words_of text)) ≡ true
          → cond t (spaced (without_return text)) (join_with_byte 32 (some_of (words_of (spaced text)))) ≡ text
      go true e bytes end read = ap spaced end ∙ bytes
      go false e bytes end read =
          ap (λ (xs : List ℕ). join_with_byte 32 (some_of (words_of xs))) bytes ∙ plain_words text e read

same_ended : (ended : Bool) (text : List ℕ) → ended && is_tidy_line text ≡ true
    → printed_line (tidy_line text) ≡ cond ended (printed_line text) text
same_ended true text tidy = ap printed_line (same_line text tidy)
same_ended false text tidy = absurd cc

same_lines : (lines : List Line) → list_all (λ line. line.ended && is_tidy_line line.text) lines ≡ true
    → tidy_lines lines ≡ flat_map line_bytes lines
same_lines [] tidy = refl
same_lines (line ∷ lines) tidy =
    let t = both _ _ tidy in
    ap (λ (xs : List ℕ). xs ++ tidy_lines lines) (same_ended line.ended line.text t.0)
    ∙ ap (λ (xs : List ℕ). line_bytes line ++ xs) (same_lines lines t.1)

-- no mark goes where none stands in front
pub unmarked : (bytes : List ℕ) → has_mark bytes ≡ false → without_marks bytes ≡ bytes
unmarked [] e = refl
unmarked (a ∷ []) e = refl
unmarked (a ∷ b ∷ []) e = refl
unmarked (a ∷ b ∷ c ∷ bs) e = rw e refl

-- a tidy text stays as it is
pub tidy_stays : (bytes : List ℕ) → is_tidy bytes ≡ true → tidy_text bytes ≡ bytes
tidy_stays bytes tidy =
    let t = both _ _ tidy in
    ap (λ (xs : List ℕ). tidy_lines (lines_of xs)) (unmarked bytes (not_true _ t.0))
    ∙ same_lines (lines_of bytes) t.1 ∙ (lines_are bytes).whole
