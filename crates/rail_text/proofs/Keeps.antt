-- What each line of a text keeps is true of what the text gives.
use Rattle.std.proofs.Common.{ℕ, ◌+◌, Bool, true, List, [], ◌∷◌, length, Result, Ok, Err}
use Rattle.std.specs.Prelude.{nat_lt}
use Rattle.rail_text.proofs.Binds.{OfOk, bind_keeps, bind_any, if_keeps}
use Rattle.rail_text.specs.Lines.{Line, lines_of, words_of}
use Rattle.rail_text.specs.Forms.{form_of}
use Rattle.rail_text.specs.Texts.{Reads, formed, line_onto, at_line, lines_onto, text_onto}
use Rattle.rail_text.specs.declared.cause.Cause.{Cause}
use Rattle.rail_text.specs.declared.forms.LineForm.{LineForm}
use Rattle.rail_text.specs.declared.forms.LineForm.TheVariants as forms

-- the words of each line keep P
abbrev pub WordsKeep : {D : Type 0} → (D → Type 0) → Reads D → Type 0
WordsKeep P read = (draft : _) (words : List (List ℕ)) → P draft → OfOk P (read draft words)

formed_keeps : {D : Type 0} (P : D → Type 0) (read : Reads D) (draft : D) (words : List (List ℕ)) (form : LineForm)
    → WordsKeep P read → P draft → OfOk P (formed read draft words form)
formed_keeps P read draft words forms.Skipped keep h = h
formed_keeps P read draft words forms.Words keep h = keep draft words h

line_keeps : {D : Type 0} (P : D → Type 0) (read : Reads D) (draft : D) (line : Line) → WordsKeep P read → P draft
    → OfOk P (line_onto read draft line)
unfolding line_onto
line_keeps P read draft line keep h =
    bind_any P (form_of true line) (formed read draft (words_of line.text))
    (λ form. formed_keeps P read draft (words_of line.text) form keep h)

at_line_keeps : {D : Type 0} (P : D → Type 0) (n : ℕ) (r : Result D Cause) → OfOk P r → OfOk P (at_line n r)
at_line_keeps P n (Ok draft) h = h
at_line_keeps P n (Err cause) h = tt

lines_keep : {D : Type 0} (P : D → Type 0) (read : Reads D) (ended : D → Bool) (n : ℕ) (draft : D) (lines : List Line)
    → WordsKeep P read → P draft → OfOk P (lines_onto read ended n draft lines)
unfolding lines_onto
lines_keep P read ended n draft [] keep h = if_keeps P (ended draft) _ _ (λ _. h) (λ _. tt)
lines_keep P read ended n draft (line ∷ lines) keep h =
    bind_keeps P P (at_line n (line_onto read draft line)) (λ next. lines_onto read ended (n + 1) next lines)
    (at_line_keeps P n (line_onto read draft line) (line_keeps P read draft line keep h))
    (λ next q. lines_keep P read ended (n + 1) next lines keep q)

-- what the words of each line keep is true of what the text gives
pub text_keeps : {D : Type 0} (P : D → Type 0) (read : Reads D) (ended : D → Bool) (most : ℕ) (start : D)
    (bytes : List ℕ) → WordsKeep P read → P start → OfOk P (text_onto read ended most start bytes)
unfolding text_onto
text_keeps P read ended most start bytes keep h =
    if_keeps P (nat_lt most (length bytes)) _ _ (λ _. tt) (λ _. lines_keep P read ended 1 start (lines_of bytes) keep h)
