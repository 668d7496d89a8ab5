-- The lines of a text that are read, by their texts.
use Rattle.std.specs.Prelude.{ℕ, Bool, ◌&&◌, nat_le, List, [], ◌∷◌, ◌++◌, length, if◌then◌else◌}
use Rattle.std.specs.List.{list_all}
use Rattle.rail_text.specs.Lines.{Line}
use Rattle.rail_text.specs.Forms.{is_printable, is_skipped}

-- a line with its end, of at most 200 bytes, all of which may stand in a line
abbrev pub is_formed : Line → Bool
is_formed line = line.ended && list_all is_printable line.text && nat_le (length line.text) 200

-- the texts of the lines that aren't skipped
abbrev pub kept : List Line → List (List ℕ)
kept [] = []
kept (line ∷ lines) = if is_skipped line.text then kept lines else line.text ∷ kept lines

-- two words with a space between them
abbrev pub words_text : List ℕ → List ℕ → List ℕ
words_text keyword word = keyword ++ 32 ∷ word
