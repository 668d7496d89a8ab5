-- A text whose form is mended.
use Rattle.std.specs.Prelude.{ℕ, Bool, false, not, ◌&&◌, ◌||◌, ◌==◌, List, [], ◌∷◌, filter, map}
use Rattle.std.specs.Prelude.{if◌then◌else◌}
use Rattle.std.specs.List.{flat_map, join_with_byte, list_all, list_any}
use Rattle.rail_text.specs.Forms.{is_skipped}
use Rattle.rail_text.specs.Lines.{Line, is_empty_word, lacks, lines_of, printed_line, words_of}

-- a tab, a carriage return or a space
abbrev pub is_blank : ℕ → Bool
is_blank b = b == 9 || b == 13 || b == 32

-- a blank as a space, another byte as it is
abbrev pub spaced_byte : ℕ → ℕ
spaced_byte b = if is_blank b then 32 else b

-- the text with each blank as a space
abbrev pub spaced : List ℕ → List ℕ
spaced text = map spaced_byte text

-- what stands between blanks, however many they are
abbrev pub blank_words : List ℕ → List (List ℕ)
blank_words text = filter (λ word. not (is_empty_word word)) (words_of (spaced text))

-- the text without a carriage return at its end
abbrev pub without_return : List ℕ → List ℕ
without_return [] = []
without_return (b ∷ []) = if b == 13 then [] else b ∷ []
without_return (b ∷ c ∷ bs) = b ∷ without_return (c ∷ bs)

-- a comment: its first byte is #
abbrev pub is_comment : List ℕ → Bool
is_comment [] = false
is_comment (b ∷ bs) = b == 35

-- A line as it is mended: its words with single spaces between them. In a comment only a carriage return at its end
-- goes, and each other blank is a space.
abbrev pub tidy_line : List ℕ → List ℕ
tidy_line text = if is_comment text then spaced (without_return text) else join_with_byte 32 (blank_words text)

-- the three bytes of a byte order mark stand in front
abbrev pub has_mark : List ℕ → Bool
has_mark (a ∷ b ∷ c ∷ bs) = a == 239 && b == 187 && c == 191
has_mark bs = false

-- the text without the byte order marks in front
abbrev pub without_marks : List ℕ → List ℕ
without_marks (a ∷ b ∷ c ∷ bs) = if a == 239 && b == 187 && c == 191 then without_marks bs else a ∷ b ∷ c ∷ bs
without_marks bs = bs

-- each line mended, with its end
abbrev pub tidy_lines : List Line → List ℕ
tidy_lines lines = flat_map printed_line (map (λ line. tidy_line line.text) lines)

-- the text as it is mended
abbrev pub tidy_text : List ℕ → List ℕ
tidy_text bytes = tidy_lines (lines_of (without_marks bytes))

-- ---- what is tidy

-- no byte is a tab or a carriage return, and a line that is read has no empty word
abbrev pub is_tidy_line : List ℕ → Bool
is_tidy_line text =
    lacks 9 text && lacks 13 text && (is_skipped text || not (list_any is_empty_word (words_of text)))

-- no byte order mark stands in front, and each line is tidy and has its end
abbrev pub is_tidy : List ℕ → Bool
is_tidy bytes =
    not (has_mark bytes) && list_all (λ line. line.ended && is_tidy_line line.text) (lines_of bytes)
