-- Sessions: one man works his own box, call by call, and behind each of his calls the other boxes go on by their
-- scripts.
use Rattle.std.specs.Prelude.{◌≡◌, ◌≢◌, ℕ, Bool, List, [], ◌∷◌, ◌++◌, Option, Some, None, false}
use Rattle.line_plan.specs.Plans.{PlanFields}
use Rattle.line_law.specs.declared.call.Call.{Call}
use Rattle.line_law.specs.declared.call.Entry.{Entry}
use Rattle.line_law.specs.History.{IsLegal, after_entry, calls_of, state_of}
use Rattle.line_law.specs.Serial.{calls_left, first_free}
use Rattle.line_law.specs.States.{LineState, box_at, opening_state}
use Rattle.line_rehearsal.specs.Rehearsals.{left_after, left_then}
use Rattle.line_rehearsal.specs.Stops.{AreStopped}
use Rattle.box_session.specs.Others.{call_from, others_from}

-- ---- the journal of a session

-- behind a journal, the man of box b makes a call, and then the others go on by what is left of their scripts
abbrev pub with_call : PlanFields → List (List Call) → ℕ → List Entry → Call → List Entry
with_call plan scripts b journal call =
    journal ++ call_from plan (state_of plan journal) (left_after scripts journal) b call

-- he makes these calls, one after another
abbrev pub with_calls : PlanFields → List (List Call) → ℕ → List Entry → List Call → List Entry
with_calls plan scripts b journal [] = journal
with_calls plan scripts b journal (call ∷ calls) =
    with_calls plan scripts b (with_call plan scripts b journal call) calls

-- The journal of a session of the man of box b who has made these calls, and of the others who have these scripts: they
-- go on where the line opens, and behind each of his calls. So the same calls give the same journal.
unfoldable pub session_journal : PlanFields → List (List Call) → ℕ → List Call → List Entry
session_journal plan scripts b calls = with_calls plan scripts b (others_from plan (opening_state plan) scripts) calls

-- ---- what a session is to its callers

-- A session: the plan, his box, the calls of the scripts, his calls that aren't taken back, in order; and whether the
-- line is worked as far as the journal.
pub record SessionFields : Type 0 where
  pub plan : PlanFields
  pub box_no : ℕ
  pub scripts : List (List Call)
  pub calls : List Call
  pub is_worked : Bool

-- its journal
abbrev pub journal_of : SessionFields → List Entry
journal_of session = session_journal session.plan session.scripts session.box_no session.calls

-- the moment of the last of these calls, or 0
abbrev pub last_moment : List Call → ℕ
last_moment [] = 0
last_moment (call ∷ []) = call.moment
last_moment (call ∷ (next ∷ calls)) = last_moment (next ∷ calls)

-- his last call is taken back, if he has made one: the session is as before it, and its line has to be worked again
abbrev pub TakesBack : SessionFields → SessionFields → Option Call → Type 0
TakesBack old new None = (old.calls ≡ []) × (new ≡ old)
TakesBack old new (Some call) =
    (old ≡ record new { calls = new.calls ++ call ∷ []; is_worked = old.is_worked }) × (new.is_worked ≡ false)

-- ---- what its journal is

-- An entry in its turn, with these calls left: one of the man of box b, made where every other box is stopped or has
-- ended; or one of the lowest box that has a call left and isn't stopped.
pub record IsTurn (plan : PlanFields) (b : ℕ) (state : LineState) (left : List (List Call)) (e : Entry) : Type 0 where
  pub his : e.box_no ≡ b → AreStopped plan state left
  pub other : e.box_no ≢ b → first_free plan state 0 left ≡ Some e.box_no

-- from a state on, with these calls left, each entry stands in its turn
abbrev pub AreInTurn : PlanFields → ℕ → LineState → List (List Call) → List Entry → Type 0
AreInTurn plan b state left [] = Unit {0}
AreInTurn plan b state left (e ∷ es) =
    IsTurn plan b state left e × AreInTurn plan b (after_entry plan state e) (left_then left e.box_no) es

-- The journal of a session in which the man of box b has made these calls. It is legal, so each reply is the law's. His
-- part is exactly his calls, in order, and his moment that of the last; the part of each other box, with what it has
-- left behind it, is its script. Each entry stands in its turn, and at the end every other box is stopped at an await
-- that the line doesn't satisfy, or has ended.
pub record IsSession (plan : PlanFields) (scripts : List (List Call)) (b : ℕ) (calls : List Call) (journal : List Entry)
    : Type 0 where
  pub legal : IsLegal plan journal
  pub his : calls_of b journal ≡ calls
  pub moment : (box_at (state_of plan journal) b).moment ≡ last_moment calls
  pub others : (c : ℕ) → c ≢ b
      → calls_of c journal ++ calls_left (left_after scripts journal) c ≡ calls_left scripts c
  pub turns : AreInTurn plan b (opening_state plan) scripts journal
  pub stopped : AreStopped plan (state_of plan journal) (left_after scripts journal)
