-- The lines and the words of a text that was printed.
use Rattle.std.proofs.Common.{◌≡◌, ℕ, ◌<◌, Bool, true, false, not, ◌&&◌, cond, eqb, List, [], ◌∷◌, ◌++◌, length, map}
use Rattle.std.proofs.Common.{refl, sym, ap, ◌∙◌, append_assoc, arith}
use Rattle.std.specs.List.{list_all, flat_map, join_with_byte}
use Rattle.std.proofs.lemmas.Bool.{eqb-true}
use Rattle.std.proofs.lemmas.List.{append-nil}
use Rattle.rail_text.specs.Lines.{Line, lines_of, onto_line, words_of, onto_word, lacks, ended_line, printed_line}
use Rattle.rail_text.specs.Lines.{line_bytes, is_empty_word, are_ended, AreLinesOf, AreWordsOf}

-- a test whose opposite holds doesn't hold
pub not_true : (b : Bool) → not b ≡ true → b ≡ false
not_true true e = absurd cc
not_true false e = refl

-- of two tests that hold together each holds
pub both : (a b : Bool) → a && b ≡ true → (a ≡ true) × (b ≡ true)
both true b e = (refl, e)
both false b e = absurd cc

-- ---- lines

-- a text with its end is the first line
pub lines_of-line : (text rest : List ℕ) → lacks 10 text ≡ true
    → lines_of (text ++ 10 ∷ rest) ≡ ended_line text ∷ lines_of rest
lines_of-line [] rest h = refl
lines_of-line (b ∷ bs) rest h =
    let p = both _ _ h in let other : eqb b 10 ≡ false = not_true _ p.0 in
    rw (other, lines_of-line bs rest p.1) refl

-- a text without a line end, as a line is printed, is the first line of what it begins
pub lines_of-printed_line : (text rest : List ℕ) → lacks 10 text ≡ true
    → lines_of (printed_line text ++ rest) ≡ ended_line text ∷ lines_of rest
lines_of-printed_line text rest h = ap lines_of (append_assoc text (10 ∷ []) rest) ∙ lines_of-line text rest h

-- a text that was printed line by line
pub lines_of-printed : (texts : List (List ℕ)) → list_all (lacks 10) texts ≡ true
    → lines_of (flat_map printed_line texts) ≡ map ended_line texts
lines_of-printed [] h = refl
lines_of-printed (text ∷ texts) h =
    let p = both (lacks 10 text) (list_all (lacks 10) texts) h in
    lines_of-printed_line text (flat_map printed_line texts) p.0
    ∙ ap (λ (lines : List Line). ended_line text ∷ lines) (lines_of-printed texts p.1)

-- a last text with no end is a line of its own, if it has a byte
pub lines_of-last : (b : ℕ) (text : List ℕ) → lacks 10 (b ∷ text) ≡ true
    → lines_of (b ∷ text) ≡ record { text = b ∷ text; ended = false } ∷ []
lines_of-last b [] h = let other : eqb b 10 ≡ false = not_true _ (both _ _ h).0 in rw other refl
lines_of-last b (a ∷ text) h =
    let p = both (not (eqb b 10)) (lacks 10 (a ∷ text)) h in
    let other : eqb b 10 ≡ false = not_true _ p.0 in
    let rest : lines_of (a ∷ text) ≡ record { text = a ∷ text; ended = false } ∷ [] = lines_of-last a text p.1 in
    rw other (ap (onto_line b) rest)

single_line : (ended : Bool) (text : List ℕ) → lacks 10 text ≡ true → cond ended true (not (is_empty_word text)) ≡ true
    → lines_of (cond ended (printed_line text) text) ≡ record { text = text; ended = ended } ∷ []
single_line true text h e = lines_of-line text [] h
single_line false [] h e = absurd cc
single_line false (b ∷ text) h e = lines_of-last b text h

first_ended : (ended : Bool) (text rest : List ℕ) → ended ≡ true → lacks 10 text ≡ true
    → lines_of (cond ended (printed_line text) text ++ rest) ≡ record { text = text; ended = ended } ∷ lines_of rest
first_ended true text rest e h = lines_of-printed_line text rest h
first_ended false text rest e h = absurd cc

lines_of-joined : (lines : List Line) → list_all (λ line. lacks 10 line.text) lines ≡ true → are_ended lines ≡ true
    → lines_of (flat_map line_bytes lines) ≡ lines
lines_of-joined [] h e = refl
lines_of-joined (line ∷ []) h e =
    rw append-nil (single_line line.ended line.text (both (lacks 10 line.text) true h).0 e)
lines_of-joined (line ∷ next ∷ lines) h e =
    let p = both (lacks 10 line.text) (list_all (λ l. lacks 10 l.text) (next ∷ lines)) h in
    let q = both line.ended (are_ended (next ∷ lines)) e in
    first_ended line.ended line.text (flat_map line_bytes (next ∷ lines)) q.0 p.0
    ∙ ap (λ (ls : List Line). line ∷ ls) (lines_of-joined (next ∷ lines) p.1 q.1)

-- lines with these properties are those of the text
pub AreLinesOf-lines : (bytes : List ℕ) (lines : List Line) → AreLinesOf bytes lines → lines ≡ lines_of bytes
AreLinesOf-lines bytes lines are = sym (lines_of-joined lines are.single are.ended) ∙ ap lines_of are.whole

bytes_onto : (b : ℕ) (lines : List Line) → flat_map line_bytes (onto_line b lines) ≡ b ∷ flat_map line_bytes lines
bytes_onto b [] = refl
bytes_onto b (line ∷ lines) = go line.ended where
  go : (ended : Bool)
      → cond ended (printed_line (b ∷ line.text)) (b ∷ line.text) ++ flat_map line_bytes lines
      ≡ b ∷ (cond ended (printed_line line.text) line.text ++ flat_map line_bytes lines)
  go true = refl
  go false = refl

lines_whole-step : (t : Bool) (b : ℕ) (bs : List ℕ) → (t ≡ true → b ≡ 10) → flat_map line_bytes (lines_of bs) ≡ bs
    → flat_map line_bytes (cond t (ended_line [] ∷ lines_of bs) (onto_line b (lines_of bs))) ≡ b ∷ bs
lines_whole-step true b bs is rest = ap (λ (xs : List ℕ). 10 ∷ xs) rest ∙ ap (λ (c : ℕ). c ∷ bs) (sym (is refl))
lines_whole-step false b bs is rest = bytes_onto b (lines_of bs) ∙ ap (λ (xs : List ℕ). b ∷ xs) rest

lines_whole : (bytes : List ℕ) → flat_map line_bytes (lines_of bytes) ≡ bytes
lines_whole [] = refl
lines_whole (b ∷ bs) = lines_whole-step (eqb b 10) b bs (λ e. eqb-true b 10 e) (lines_whole bs)

single_onto : (b : ℕ) (lines : List Line) → eqb b 10 ≡ false → list_all (λ line. lacks 10 line.text) lines ≡ true
    → list_all (λ line. lacks 10 line.text) (onto_line b lines) ≡ true
single_onto b [] other h = rw other refl
single_onto b (line ∷ lines) other h = rw other h

lines_single-step : (t : Bool) (b : ℕ) (bs : List ℕ) → eqb b 10 ≡ t
    → list_all (λ line. lacks 10 line.text) (lines_of bs) ≡ true
    → list_all (λ line. lacks 10 line.text) (cond t (ended_line [] ∷ lines_of bs) (onto_line b (lines_of bs))) ≡ true
lines_single-step true b bs is rest = rest
lines_single-step false b bs is rest = single_onto b (lines_of bs) is rest

lines_single : (bytes : List ℕ) → list_all (λ line. lacks 10 line.text) (lines_of bytes) ≡ true
lines_single [] = refl
lines_single (b ∷ bs) = lines_single-step (eqb b 10) b bs refl (lines_single bs)

ended_after : (lines : List Line) → are_ended lines ≡ true → are_ended (ended_line [] ∷ lines) ≡ true
ended_after [] h = refl
ended_after (line ∷ lines) h = h

some_last : (ended : Bool) (b : ℕ) (text : List ℕ) → cond ended true (not (is_empty_word (b ∷ text))) ≡ true
some_last true b text = refl
some_last false b text = refl

ended_onto : (b : ℕ) (lines : List Line) → are_ended lines ≡ true → are_ended (onto_line b lines) ≡ true
ended_onto b [] h = refl
ended_onto b (line ∷ []) h = some_last line.ended b line.text
ended_onto b (line ∷ next ∷ lines) h = h

lines_ended-step : (t : Bool) (b : ℕ) (bs : List ℕ) → are_ended (lines_of bs) ≡ true
    → are_ended (cond t (ended_line [] ∷ lines_of bs) (onto_line b (lines_of bs))) ≡ true
lines_ended-step true b bs rest = ended_after (lines_of bs) rest
lines_ended-step false b bs rest = ended_onto b (lines_of bs) rest

lines_ended : (bytes : List ℕ) → are_ended (lines_of bytes) ≡ true
lines_ended [] = refl
lines_ended (b ∷ bs) = lines_ended-step (eqb b 10) b bs (lines_ended bs)

-- the lines of a text have these properties
pub lines_are : (bytes : List ℕ) → AreLinesOf bytes (lines_of bytes)
lines_are bytes = record { whole = lines_whole bytes; single = lines_single bytes; ended = lines_ended bytes }

-- ---- words

-- a text with no space is a word
pub words_of-word : (word : List ℕ) → lacks 32 word ≡ true → words_of word ≡ word ∷ []
words_of-word [] h = refl
words_of-word (b ∷ bs) h =
    let p = both _ _ h in let other : eqb b 32 ≡ false = not_true _ p.0 in
    rw (other, words_of-word bs p.1) refl

-- a text without a space, with a space behind it, is the first word of what it begins
pub words_of-next : (word rest : List ℕ) → lacks 32 word ≡ true → words_of (word ++ 32 ∷ rest) ≡ word ∷ words_of rest
words_of-next [] rest h = refl
words_of-next (b ∷ bs) rest h =
    let p = both _ _ h in let other : eqb b 32 ≡ false = not_true _ p.0 in
    rw (other, words_of-next bs rest p.1) refl

-- words with single spaces between them
pub words_of-joined : (words : List (List ℕ)) → 0 < length words → list_all (lacks 32) words ≡ true
    → words_of (join_with_byte 32 words) ≡ words
words_of-joined [] some h = absurd (omega arith)
words_of-joined (word ∷ []) some h = words_of-word word (both (lacks 32 word) true h).0
words_of-joined (word ∷ next ∷ words) some h =
    let p = both (lacks 32 word) (list_all (lacks 32) (next ∷ words)) h in
    words_of-next word (join_with_byte 32 (next ∷ words)) p.0
    ∙ ap (λ (ws : List (List ℕ)). word ∷ ws) (words_of-joined (next ∷ words) (omega arith) p.1)

pub AreWordsOf-words : (text : List ℕ) (words : List (List ℕ)) → AreWordsOf text words → words ≡ words_of text
AreWordsOf-words text words are = sym (words_of-joined words are.some are.single) ∙ ap words_of are.whole

-- a line has a word
pub some_words : (text : List ℕ) → 0 < length (words_of text)
some_words [] = omega arith
some_words (b ∷ bs) = go (eqb b 32) where
  onto : (ws : List (List ℕ)) → 0 < length (onto_word b ws)
  onto [] = omega arith
  onto (w ∷ ws) = omega arith

  go : (t : Bool) → 0 < length (cond t ([] ∷ words_of bs) (onto_word b (words_of bs)))
  go true = omega arith
  go false = onto (words_of bs)

join_onto : (b : ℕ) (words : List (List ℕ)) → join_with_byte 32 (onto_word b words) ≡ b ∷ join_with_byte 32 words
join_onto b [] = refl
join_onto b (word ∷ []) = refl
join_onto b (word ∷ other ∷ words) = refl

join_empty : (words : List (List ℕ)) → 0 < length words → join_with_byte 32 ([] ∷ words) ≡ 32 ∷ join_with_byte 32 words
join_empty [] h = absurd (omega arith)
join_empty (word ∷ words) h = refl

joined-words_of-step : (t : Bool) (b : ℕ) (bs : List ℕ) → (t ≡ true → b ≡ 32) → join_with_byte 32 (words_of bs) ≡ bs
    → join_with_byte 32 (cond t ([] ∷ words_of bs) (onto_word b (words_of bs))) ≡ b ∷ bs
joined-words_of-step true b bs is rest =
    join_empty (words_of bs) (some_words bs) ∙ ap (λ (xs : List ℕ). 32 ∷ xs) rest
    ∙ ap (λ (c : ℕ). c ∷ bs) (sym (is refl))
joined-words_of-step false b bs is rest = join_onto b (words_of bs) ∙ ap (λ (xs : List ℕ). b ∷ xs) rest

-- the words of a line, joined, are its text
pub joined-words_of : (text : List ℕ) → join_with_byte 32 (words_of text) ≡ text
joined-words_of [] = refl
joined-words_of (b ∷ bs) = joined-words_of-step (eqb b 32) b bs (λ e. eqb-true b 32 e) (joined-words_of bs)

single_onto_word : (b : ℕ) (words : List (List ℕ)) → eqb b 32 ≡ false → list_all (lacks 32) words ≡ true
    → list_all (lacks 32) (onto_word b words) ≡ true
single_onto_word b [] other h = rw other refl
single_onto_word b (word ∷ words) other h = rw other h

words_single-step : (t : Bool) (b : ℕ) (bs : List ℕ) → eqb b 32 ≡ t → list_all (lacks 32) (words_of bs) ≡ true
    → list_all (lacks 32) (cond t ([] ∷ words_of bs) (onto_word b (words_of bs))) ≡ true
words_single-step true b bs is rest = rest
words_single-step false b bs is rest = single_onto_word b (words_of bs) is rest

words_single : (text : List ℕ) → list_all (lacks 32) (words_of text) ≡ true
words_single [] = refl
words_single (b ∷ bs) = words_single-step (eqb b 32) b bs refl (words_single bs)

-- the words of a line, with one space between each two, are its text; there is one at least, and none has a space
pub words_are : (text : List ℕ) → AreWordsOf text (words_of text)
words_are text = record { whole = joined-words_of text; some = some_words text; single = words_single text }

pub ruleset line_laws = (AreLinesOf-lines, lines_of-printed)

pub ruleset word_laws = (AreWordsOf-words)
