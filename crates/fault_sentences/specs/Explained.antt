-- How the refusal of a text is explained.
use Rattle.std.specs.Prelude.{◌≡◌, ℕ, ◌-◌, ◌^◌, ◌==◌, ◌&&◌, nat_lt, List, [], ◌∷◌, ◌++◌, length, map, codes, decimal}
use Rattle.std.specs.Prelude.{slice_get, Option, Some, None, option_map, if◌then◌else◌}
use Rattle.rail_text.specs.Forms.{is_printable}
use Rattle.rail_text.specs.Lines.{lines_of}
use Rattle.rail_text.specs.CauseText.{cause_bytes}
use Rattle.rail_text.specs.declared.cause.Cause.{Cause}

-- a byte as it is shown: one that may not stand in a line is a question mark
abbrev pub shown_byte : ℕ → ℕ
shown_byte b = if is_printable b then b else 63

-- a line behind four blanks
abbrev pub indented : List ℕ → List ℕ
indented text = codes "    " ++ map shown_byte text ++ 10 ∷ []

-- the number of a line behind a colon; nothing for the text as a whole
abbrev pub at_line : ℕ → List ℕ
at_line line = if line == 0 then [] else 58 ∷ decimal line

-- what stands first: where the fault is, and its cause
abbrev pub heading : List ℕ → ℕ → Cause → List ℕ
heading name line cause = name ++ at_line line ++ codes ": " ++ cause_bytes cause ++ 10 ∷ []

-- The line of a text with this number, from 1, without its end: none where the text has no such line. A text of 4 GiB
-- is refused as a whole, and none of its lines is looked up.
abbrev pub line_with : List ℕ → ℕ → Option (List ℕ)
line_with bytes line =
    if nat_lt 0 line && nat_lt (length bytes) (2 ^ 32)
    then option_map (λ found. found.text) (slice_get (lines_of bytes) (line - 1))
    else None

-- the refused line as it stands, where the text has such a line
abbrev pub shown_line : Option (List ℕ) → List ℕ
shown_line None = []
shown_line (Some text) = indented text

-- the explanation with this sentence
abbrev pub explanation : List ℕ → List ℕ → ℕ → Cause → List ℕ → List ℕ
explanation name bytes line cause sentence =
    heading name line cause ++ shown_line (line_with bytes line) ++ indented sentence

-- First the place and the cause, then the refused line, where there is one, and last a sentence.
pub record Explains (name bytes : List ℕ) (line : ℕ) (cause : Cause) (text : List ℕ) : Type 0 where
  pub sentence : List ℕ
  pub whole : text ≡ explanation name bytes line cause sentence
