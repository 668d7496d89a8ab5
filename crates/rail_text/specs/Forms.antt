-- What a line is before its words are read.
use Rattle.std.specs.Prelude.{ℕ, Bool, true, not, nat_le, nat_lt, ◌==◌, ◌&&◌, List, [], ◌∷◌, length, Result, Ok, Err}
use Rattle.std.specs.Prelude.{if◌then◌else◌, Option, Some, None}
use Rattle.std.specs.List.{list_all, list_any}
pub use Rattle.rail_text.specs.Lines.{is_empty_word}
use Rattle.rail_text.specs.Gives.{◌>>=◌}
use Rattle.rail_text.specs.Lines.{Line, words_of}
use Rattle.rail_text.specs.declared.cause.Cause.{Cause}
use Rattle.rail_text.specs.declared.cause.Cause.TheVariants as causes
use Rattle.rail_text.specs.declared.forms.LineForm.{LineForm}
use Rattle.rail_text.specs.declared.forms.LineForm.TheVariants as forms

-- a byte that may stand in a line
abbrev pub is_printable : ℕ → Bool
is_printable b = nat_le 32 b && nat_le b 126

-- an empty line, or one that begins with #
abbrev pub is_skipped : List ℕ → Bool
is_skipped [] = true
is_skipped (b ∷ bs) = b == 35

-- the first of these that is so, in a text with skipped lines or without
unfoldable pub form_of : Bool → Line → Result LineForm Cause
form_of skips line =
    if not line.ended then Err causes.Cut
    else if not (list_all is_printable line.text) then Err causes.BadByte
    else if nat_lt 200 (length line.text) then Err causes.LongLine
    else if skips && is_skipped line.text then Ok forms.Skipped
    else if list_any is_empty_word (words_of line.text) then Err causes.Spacing
    else Ok forms.Words

-- the words of a line that isn't skipped
abbrev pub words_unless_skipped : List (List ℕ) → LineForm → Result (Option (List (List ℕ))) Cause
words_unless_skipped words forms.Skipped = Ok None
words_unless_skipped words forms.Words = Ok (Some words)

-- the words of a line that has its form, if it isn't skipped
unfoldable pub formed_words : Bool → Line → Result (Option (List (List ℕ))) Cause
formed_words skips line = form_of skips line >>= words_unless_skipped (words_of line.text)

-- a byte of a word: no space
abbrev pub is_word_byte : ℕ → Bool
is_word_byte b = nat_le 33 b && nat_le b 126

-- a word as it may stand in a line
abbrev pub is_word : List ℕ → Bool
is_word word = not (is_empty_word word) && list_all is_word_byte word
