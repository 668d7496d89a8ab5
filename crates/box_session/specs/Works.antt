-- A line that is worked by scripts while a man works his own box, and what a session keeps.
use Rattle.std.specs.Prelude.{◌≡◌, ℕ, ◌+◌, ◌<◌, ◌≤◌, ◌^◌, Bool, IsTrue, List, [], ◌∷◌, ◌++◌, length, map}
use Rattle.line_plan.specs.Plans.{PlanFields}
use Rattle.line_law.specs.declared.call.Call.{Call}
use Rattle.line_law.specs.declared.call.Entry.{Entry}
use Rattle.line_law.specs.History.{state_after, state_of}
use Rattle.line_law.specs.Lines.{IsLineOf, PlainState}
use Rattle.line_law.specs.Serial.{AreCalls, AreLeft, calls_left, count_left}
use Rattle.line_rehearsal.specs.Rehearsals.{left_after}
use Rattle.script_text.specs.declared.script.Script.{Script}
use Rattle.serial_working.specs.Rosters.{calls_of_scripts}
use Rattle.text_fetch.specs.Runs.{AreScriptsOf}
use Rattle.box_session.specs.Sessions.{session_journal}
use Rattle.box_session.specs.declared.made_call.MadeCall.{MadeCall}
use Rattle.box_session.specs.declared.made_call.TheConstants.{MOST_MADE}

-- ---- a line, and what is left of the scripts that are worked on it

-- it may be worked on by them: what is left are calls that the boxes may make in turn, and few enough to be counted
pub record IsGoingOn (plan : PlanFields) (plain : PlainState) (rest : List (List Call)) : Type 0 where
  pub line : IsLineOf plan plain
  pub left : AreLeft plan plain.line rest
  pub few : plain.calls + count_left rest < 2 ^ 32

-- it is as these entries leave it, from a line with these calls left
pub record IsAfter (plan : PlanFields) (before : PlainState) (left : List (List Call)) (es : List Entry)
    (plain : PlainState) (rest : List (List Call)) : Type 0 where
  pub line : plain ≡ record { line = state_after plan before.line es; calls = before.calls + length es }
  pub is_left : rest ≡ left_after left es

-- it is worked as far as a journal
pub record IsWorkedTo (plan : PlanFields) (scripts : List (List Call)) (journal : List Entry) (plain : PlainState)
    (left : List (List Call)) : Type 0 where
  pub line : plain ≡ record { line = state_of plan journal; calls = length journal }
  pub is_left : left ≡ left_after scripts journal

-- ---- the calls of the man

-- his calls alone
abbrev pub calls_made : List MadeCall → List Call
calls_made made = map (λ m. m.call) made

-- behind the calls that are done, each of these stands in the journal right behind what the calls before it came to
abbrev pub ArePlaced : PlanFields → List (List Call) → ℕ → List Call → List MadeCall → Type 0
ArePlaced plan scripts b done [] = Unit {0}
ArePlaced plan scripts b done (m ∷ made) =
    (m.place ≡ length (session_journal plan scripts b done))
    × ArePlaced plan scripts b (done ++ m.call ∷ []) made

-- ---- what a session keeps

-- The scripts are those of the line, and that of his own box is empty. He has made few calls, which he may make in turn
-- from the start of the day; the entries are the journal of these; each call stands at its place in it; and where the
-- line is worked, it is worked as far as that.
pub record IsKept (plan : PlanFields) (b : ℕ) (scripts : List Script) (entries : List Entry) (made : List MadeCall)
    (is_worked : Bool) (plain : PlainState) (left : List (List Call)) : Type 0 where
  pub own : AreScriptsOf plan scripts
  pub box : b < length plan.boxes
  pub idle : calls_left (calls_of_scripts scripts) b ≡ []
  pub few : length made ≤ MOST_MADE
  pub calls : AreCalls plan b 0 (calls_made made)
  pub journal : entries ≡ session_journal plan (calls_of_scripts scripts) b (calls_made made)
  pub places : ArePlaced plan (calls_of_scripts scripts) b [] made
  pub worked : IsTrue is_worked → IsWorkedTo plan (calls_of_scripts scripts) entries plain left
