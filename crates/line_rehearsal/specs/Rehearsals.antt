-- Scripts that are rehearsed: worked on one thread, in the serial order, up to where no box may go on.
use Rattle.std.specs.Prelude.{◌≡◌, ◌⊎◌, ℕ, ◌+◌, ◌<◌, ◌^◌, Bool, true, false, List, [], ◌∷◌, ◌++◌, Some, All, length}
use Rattle.std.specs.Prelude.{take, drop, slice_index_or, slice_set}
use mathlib.Core.List.{IsPrefix}
use Rattle.line_plan.specs.Plans.{PlanFields}
use Rattle.line_law.specs.declared.call.Call.{Call}
use Rattle.line_law.specs.declared.call.Entry.{Entry}
use Rattle.line_law.specs.declared.call.Reply.{Reply}
use Rattle.line_law.specs.History.{IsLegal, after_entry, calls_of, state_of}
use Rattle.line_law.specs.Lines.{IsLineOf, PlainState}
use Rattle.line_law.specs.Refusals.{is_refused}
use Rattle.line_law.specs.Serial.{AreLeft, calls_left, count_left, first_free, serial_journal}
use Rattle.line_law.specs.States.{LineState}
use Rattle.line_rehearsal.specs.declared.until.Until.{Until}
use Rattle.line_rehearsal.specs.declared.until.Until.TheVariants.{Stop, Refusal}
use Rattle.line_rehearsal.specs.Stops.{AreStopped}
use Rattle.script_text.specs.declared.script.Script.{Script}
use Rattle.serial_working.specs.Rosters.{AreFewCalls, calls_of_scripts, left_of}
use Rattle.serial_working.specs.Serial.{Turns}

-- a rehearsal ends with a call that is answered so: never, or where it is refused
abbrev pub ends_with : Until → Reply → Bool
ends_with Stop reply = false
ends_with Refusal reply = is_refused reply

-- ---- what is left of scripts

-- the calls left once box b has made its next one
abbrev pub left_then : List (List Call) → ℕ → List (List Call)
left_then left b = slice_set left b (drop 1 (calls_left left b))

-- the calls left after these entries, of which each is the next call of its box
abbrev pub left_after : List (List Call) → List Entry → List (List Call)
left_after left [] = left
left_after left (e ∷ es) = left_after (left_then left e.box_no) es

-- ---- a rehearsal

-- After these entries it isn't over: none of them ends it, and box b is the lowest that has a call left and isn't
-- stopped at an await that the line doesn't satisfy.
pub record GoesOn (plan : PlanFields) (scripts : List (List Call)) (until : Until) (es : List Entry) (b : ℕ)
    : Type 0 where
  pub before : All (λ e. ends_with until e.reply ≡ false) es
  pub free : first_free plan (state_of plan es) 0 (left_after scripts es) ≡ Some b

-- the last of these entries ends it
pub record HasEnded (until : Until) (es : List Entry) : Type 0 where
  pub front : List Entry
  pub last : Entry
  pub is : es ≡ front ++ last ∷ []
  pub ends : ends_with until last.reply ≡ true

-- after these entries it is over: every box with a call left is stopped, or the last of them ends it
abbrev pub IsOver : PlanFields → List (List Call) → Until → List Entry → Type 0
IsOver plan scripts until es = AreStopped plan (state_of plan es) (left_after scripts es) ⊎ HasEnded until es

-- The journal of a rehearsal of scripts, and how many calls each box has made. It is legal, and a beginning of the
-- serial order; each box has made the first calls of its script, so many. It was over after no shorter beginning, and
-- each entry is of the lowest box that could go on there; after the whole of it it is over.
pub record IsRehearsal (plan : PlanFields) (scripts : List (List Call)) (until : Until) (journal : List Entry)
    (made : List ℕ) : Type 0 where
  pub legal : IsLegal plan journal
  pub begins : IsPrefix journal (serial_journal plan scripts)
  pub counts : (b : ℕ) → slice_index_or made b 0 ≡ length (calls_of b journal)
  pub calls : (b : ℕ) → calls_of b journal ≡ take (slice_index_or made b 0) (calls_left scripts b)
  pub left : left_after scripts journal ≡ left_of scripts made
  pub earlier : (es more : List Entry) (e : Entry) → journal ≡ es ++ e ∷ more → GoesOn plan scripts until es e.box_no
  pub over : IsOver plan scripts until journal

-- ---- on the way

-- A line of a plan that is worked by scripts, of which so many calls are made: what is left are calls that the boxes
-- may make in turn, and few enough to be counted.
pub record IsUnderWay (plan : PlanFields) (scripts : List Script) (made : List ℕ) (plain : PlainState) : Type 0 where
  pub line : IsLineOf plan plain
  pub short : AreFewCalls scripts
  pub counts : length made ≡ length scripts
  pub left : AreLeft plan plain.line (left_of (calls_of_scripts scripts) made)
  pub few : plain.calls + count_left (left_of (calls_of_scripts scripts) made) < 2 ^ 32

-- an entry is the next of the serial order: its box has made a call more, and the line is as its call leaves it
pub record MakesNext (plan : PlanFields) (scripts : List (List Call)) (made : List ℕ) (old : LineState) (e : Entry)
    (after : List ℕ) (new : LineState) : Type 0 where
  pub turn : Turns plan old (left_of scripts made) e new (left_of scripts after)
  pub line : new ≡ after_entry plan old e
  pub left : left_of scripts after ≡ left_then (left_of scripts made) e.box_no
  pub counted : after ≡ slice_set made e.box_no (slice_index_or made e.box_no 0 + 1)
  pub free : first_free plan old 0 (left_of scripts made) ≡ Some e.box_no
