-- The lines of a text, and the words of a line.
use Rattle.std.specs.Prelude.{◌≡◌, ℕ, ◌<◌, Bool, true, false, not, ◌&&◌, List, [], ◌∷◌, ◌++◌, length, Option, Some}
use Rattle.std.specs.Prelude.{None, if◌then◌else◌, ◌==◌}
use Rattle.std.specs.List.{list_all, flat_map, join_with_byte}

-- what stands before the first such byte, and what after it, if there is one
abbrev pub cut_of : ℕ → List ℕ → List ℕ × Option (List ℕ)
cut_of at [] = ([], None)
cut_of at (b ∷ bs) = if b == at then ([], Some bs) else (b ∷ (cut_of at bs).0, (cut_of at bs).1)

-- a line without its end, and whether it had one
pub record Line : Type 0 where
  pub text : List ℕ
  pub ended : Bool

-- a byte in front of the first line
abbrev pub onto_line : ℕ → List Line → List Line
onto_line b [] = record { text = b ∷ []; ended = false } ∷ []
onto_line b (line ∷ lines) = record { text = b ∷ line.text; ended = line.ended } ∷ lines

-- each line goes up to its line end, the byte 10; a last one may have none
abbrev pub lines_of : List ℕ → List Line
lines_of [] = []
lines_of (b ∷ bs) = if b == 10 then record { text = []; ended = true } ∷ lines_of bs else onto_line b (lines_of bs)

-- a byte in front of the first word
abbrev pub onto_word : ℕ → List (List ℕ) → List (List ℕ)
onto_word b [] = (b ∷ []) ∷ []
onto_word b (word ∷ words) = (b ∷ word) ∷ words

-- what stands between single spaces
abbrev pub words_of : List ℕ → List (List ℕ)
words_of [] = [] ∷ []
words_of (b ∷ bs) = if b == 32 then [] ∷ words_of bs else onto_word b (words_of bs)

-- the bytes that a reader has left, and the number of the line before them
pub record Left : Type 0 where
  pub number : ℕ
  pub rest : List ℕ

-- the words of what is left after a word
abbrev pub words_after : Option (List ℕ) → List (List ℕ)
words_after None = []
words_after (Some rest) = words_of rest

-- ---- lines and words by what they are, and not by how they are cut

-- no byte of the text is c
abbrev pub lacks : ℕ → List ℕ → Bool
lacks c text = list_all (λ b. not (b == c)) text

-- a line of this text, with its end
abbrev pub ended_line : List ℕ → Line
ended_line text = record { text = text; ended = true }

-- the text as a line is printed
abbrev pub printed_line : List ℕ → List ℕ
printed_line text = text ++ 10 ∷ []

-- the bytes of a line, its end among them
abbrev pub line_bytes : Line → List ℕ
line_bytes line = if line.ended then printed_line line.text else line.text

-- a text or a word without a byte
abbrev pub is_empty_word : List ℕ → Bool
is_empty_word [] = true
is_empty_word (b ∷ bs) = false

-- each line has its end, but for a last one that isn't empty
abbrev pub are_ended : List Line → Bool
are_ended [] = true
are_ended (line ∷ []) = if line.ended then true else not (is_empty_word line.text)
are_ended (line ∷ next ∷ lines) = line.ended && are_ended (next ∷ lines)

-- The lines of a text: in a row they are its bytes, no line has a line end inside, and only a last line may have none.
pub record AreLinesOf (bytes : List ℕ) (lines : List Line) : Type 0 where
  pub whole : flat_map line_bytes lines ≡ bytes
  pub single : list_all (λ line. lacks 10 line.text) lines ≡ true
  pub ended : are_ended lines ≡ true

-- The words of a line: with one space between each two they are its text, there is one at least, and none has a space.
pub record AreWordsOf (text : List ℕ) (words : List (List ℕ)) : Type 0 where
  pub whole : join_with_byte 32 words ≡ text
  pub some : 0 < length words
  pub single : list_all (lacks 32) words ≡ true
