-- Which line of a script's text is its n-th call.
use Rattle.std.specs.Prelude.{ℕ, ◌+◌, List, [], ◌∷◌, ◌++◌, decimal, slice_index_or, if◌then◌else◌}
use Rattle.rail_text.specs.Forms.{is_skipped}
use Rattle.rail_text.specs.Lines.{Line, lines_of}

-- the numbers, from n on, of the lines that aren't skipped
abbrev pub kept_numbers : ℕ → List Line → List ℕ
kept_numbers n [] = []
kept_numbers n (line ∷ lines) =
    if is_skipped line.text then kept_numbers (n + 1) lines else n ∷ kept_numbers (n + 1) lines

-- the line of call n, from 1, which stands behind the line of the box; 0 where the text has none
abbrev pub call_line : List ℕ → ℕ → ℕ
call_line bytes n = slice_index_or (kept_numbers 1 (lines_of bytes)) n 0

-- a script by its name, and its text
pub record NamedText : Type 0 where
  pub name : List ℕ
  pub bytes : List ℕ

-- where a call of a script stands: the script's name, a colon and the number of the line
abbrev pub place_text : NamedText → ℕ → List ℕ
place_text text number = text.name ++ 58 ∷ decimal (call_line text.bytes number)

-- the script of box b; one without a name where there is none
abbrev pub text_at : List NamedText → ℕ → NamedText
text_at texts b = slice_index_or texts b (record { name = []; bytes = [] })
