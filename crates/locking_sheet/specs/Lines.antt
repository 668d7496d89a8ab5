-- Lines that are filled up to their width.
use Rattle.std.specs.Prelude.{ℕ, ◌+◌, List, [], ◌∷◌, ◌++◌, length, nat_le, if◌then◌else◌}

abbrev pub width : ℕ
width = 132

-- a text, and how many bytes stand in its last line
pub record LinesFields : Type 0 where
  pub text : List ℕ
  pub at : ℕ

-- a piece behind what stands in the line
abbrev pub on_line : LinesFields → List ℕ → LinesFields
on_line lines piece = record { text = lines.text ++ piece; at = lines.at + length piece }

-- a line has ended
abbrev pub line_ended : LinesFields → LinesFields
line_ended lines = record { text = lines.text ++ 10 ∷ []; at = 0 }

-- a line begins so
abbrev pub begun : LinesFields → List ℕ → LinesFields
begun lines head = record { text = lines.text ++ head; at = length head }

-- a piece in the line, or in a new one that begins so
unfoldable pub put : List ℕ → LinesFields → List ℕ → LinesFields
put head lines piece =
    if nat_le (lines.at + length piece) width then on_line lines piece
    else on_line (begun (line_ended lines) head) piece
