-- A text that is read line by line.
use Rattle.std.specs.Prelude.{◌≡◌, ◌≤◌, ℕ, ◌+◌, Bool, true, nat_lt, List, [], ◌∷◌, ◌++◌, length, Result, Ok, Err, IsOk}
use Rattle.std.specs.Prelude.{if◌then◌else◌}
use Rattle.rail_text.specs.Lines.{Line, lines_of, words_of}
use Rattle.rail_text.specs.Gives.{◌>>=◌, Fault}
use Rattle.rail_text.specs.Forms.{form_of}
use Rattle.rail_text.specs.declared.cause.Cause.{Cause}
use Rattle.rail_text.specs.declared.cause.Cause.TheVariants as causes
use Rattle.rail_text.specs.declared.cause.ReadError.{ReadError}
use Rattle.rail_text.specs.declared.cause.ReadError.TheVariants as errors
use Rattle.rail_text.specs.declared.forms.LineForm.{LineForm}
use Rattle.rail_text.specs.declared.forms.LineForm.TheVariants as forms
use Rattle.rail_text.specs.declared.line_fault.LineFault.{LineFault}
use Rattle.rail_text.specs.declared.line_fault.LineFault.TheVariants as faults

-- what the words of a line make of what was read so far, or what is wrong with them
abbrev pub Reads : Type 0 → Type 0
Reads D = D → List (List ℕ) → Result D Cause

-- a line that is skipped changes nothing
abbrev pub formed : {D : Type 0} → Reads D → D → List (List ℕ) → LineForm → Result D Cause
formed read draft words forms.Skipped = Ok draft
formed read draft words forms.Words = read draft words

-- a line: its form first, then its words
unfoldable pub line_onto : {D : Type 0} → Reads D → D → Line → Result D Cause
line_onto read draft line = form_of true line >>= formed read draft (words_of line.text)

-- a cause, with the number of its line
abbrev pub at_line : {D : Type 0} → ℕ → Result D Cause → Result D Fault
at_line n (Ok draft) = Ok draft
at_line n (Err cause) = Err (record { line = n; cause = cause })

-- the lines from number n on; after the last, the line `end` has stood
unfoldable pub lines_onto : {D : Type 0} → Reads D → (D → Bool) → ℕ → D → List Line → Result D Fault
lines_onto read ended n draft [] = if ended draft then Ok draft else Err (record { line = n; cause = causes.NoEnd })
lines_onto read ended n draft (line ∷ lines) =
    at_line n (line_onto read draft line) >>= (λ next. lines_onto read ended (n + 1) next lines)

-- a text of at most so many bytes: what its lines make of the start, or its first fault
unfoldable pub text_onto : {D : Type 0} → Reads D → (D → Bool) → ℕ → D → List ℕ → Result D Fault
text_onto read ended most start bytes =
    if nat_lt most (length bytes) then Err (record { line = 0; cause = causes.TooLong })
    else lines_onto read ended 1 start (lines_of bytes)

-- ---- want of memory

-- a line of words, none of them with a fault
pub record IsGoodLine {D : Type 0} (read : Reads D) (draft : D) (line : Line) : Type 0 where
  pub form : form_of true line ≡ Ok forms.Words
  pub words : IsOk (read draft (words_of line.text))

-- Want of memory is told only of a line of words that has no fault: a skipped line takes none.
abbrev pub LineRunsOut : {D : Type 0} → Reads D → D → Line → Result (Unit {0}) LineFault → Type 0
LineRunsOut read draft line (Ok done) = Unit {0}
LineRunsOut read draft line (Err (faults.Cause cause)) = Unit {0}
LineRunsOut read draft line (Err faults.NoMemory) = IsGoodLine read draft line

-- what lines make of a draft that is begun, as far as the first that has a fault
unfoldable pub more_onto : {D : Type 0} → Reads D → D → List Line → Result D Cause
more_onto read draft [] = Ok draft
more_onto read draft (line ∷ lines) = line_onto read draft line >>= (λ next. more_onto read next lines)

-- these lines are read from the start up to this draft, none of them with a fault, and the others are left
pub record IsReadTo {D : Type 0} (read : Reads D) (start : D) (lines : List Line) (draft : D) (left : List Line)
    : Type 0 where
  pub front : List Line
  pub whole : lines ≡ front ++ left
  pub good : more_onto read start front ≡ Ok draft

-- one of these lines, of words, has no fault, nor has any before it, and those make this draft
pub record IsGoodUpTo {D : Type 0} (read : Reads D) (start : D) (lines : List Line) (draft : D) : Type 0 where
  pub line : Line
  pub later : List Line
  pub before : IsReadTo read start lines draft (line ∷ later)
  pub good : IsGoodLine read draft line

-- Want of memory is told only of a text within its limit that has no fault up to the line where memory ran out; what
-- was
-- read before that line is such a draft.
abbrev pub TextRunsOut : {D X : Type 0} → Reads D → (D → Type 0) → ℕ → D → List ℕ → Result X ReadError → Type 0
TextRunsOut read IsSuch most start bytes (Ok x) = Unit {0}
TextRunsOut read IsSuch most start bytes (Err (errors.Refused line cause)) = Unit {0}
TextRunsOut {D} read IsSuch most start bytes (Err errors.NoMemory) =
    (length bytes ≤ most) × ((draft : D) × IsGoodUpTo read start (lines_of bytes) draft × IsSuch draft)
