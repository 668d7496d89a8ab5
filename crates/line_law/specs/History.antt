-- Legal histories, the state in which they end, and their parts.
use Rattle.std.specs.Prelude.{◌≡◌, ℕ, ◌+◌, ◌==◌, List, [], ◌∷◌, filter, map}
use Rattle.line_plan.specs.Plans.{PlanFields}
use Rattle.line_law.specs.declared.call.Call.{Call}
use Rattle.line_law.specs.declared.call.Entry.{Entry}
use Rattle.line_law.specs.Law.{MayCall, step}
use Rattle.line_law.specs.Lines.{PlainState}
use Rattle.line_law.specs.States.{LineState, opening_state}

-- the entry of a call that box b makes in a state: its reply is the law's
abbrev pub entry_of : PlanFields → LineState → ℕ → Call → Entry
entry_of plan state b call = record { box_no = b; call = call; reply = (step plan state b call).reply }

-- the state after an entry's call
abbrev pub after_entry : PlanFields → LineState → Entry → LineState
after_entry plan state e = (step plan state e.box_no e.call).after

-- from a state on, each entry's call is one that the law decides there, and its reply is the law's
abbrev pub IsLegalFrom : PlanFields → LineState → List Entry → Type 0
IsLegalFrom plan state [] = Unit {0}
IsLegalFrom plan state (e ∷ es) =
    MayCall plan state e.box_no e.call
    × (e.reply ≡ (step plan state e.box_no e.call).reply)
    × IsLegalFrom plan (after_entry plan state e) es

-- a legal history of a plan
abbrev pub IsLegal : PlanFields → List Entry → Type 0
IsLegal plan es = IsLegalFrom plan (opening_state plan) es

-- the state in which a history from a state ends
abbrev pub state_after : PlanFields → LineState → List Entry → LineState
state_after plan state [] = state
state_after plan state (e ∷ es) = state_after plan (after_entry plan state e) es

-- the state in which a history of a plan ends
abbrev pub state_of : PlanFields → List Entry → LineState
state_of plan es = state_after plan (opening_state plan) es

-- the entries of box b, in order
abbrev pub part_of : ℕ → List Entry → List Entry
part_of b es = filter (λ e. e.box_no == b) es

-- the calls of box b, in order
abbrev pub calls_of : ℕ → List Entry → List Call
calls_of b es = map (λ e. e.call) (part_of b es)

-- who called, and what
abbrev pub asked : Entry → ℕ × Call
asked e = (e.box_no, e.call)

-- ---- a line in one hand

-- a line of a plan as it opens, with no call made
abbrev pub opened : PlanFields → PlainState
opened plan = record { line = opening_state plan; calls = 0 }

-- an entry's call was performed: it might be made, its reply and the line after it are the law's, and one call more is
-- counted
pub record Performs (plan : PlanFields) (old : PlainState) (e : Entry) (new : PlainState) : Type 0 where
  pub call : MayCall plan old.line e.box_no e.call
  pub told : step plan old.line e.box_no e.call ≡ record { reply = e.reply; after = new.line }
  pub calls : new.calls ≡ old.calls + 1

-- the calls of these entries were performed one after another, from one state of a line in one hand to another
abbrev pub IsRun : PlanFields → PlainState → List Entry → PlainState → Type 0
IsRun plan old [] new = old ≡ new
IsRun plan old (e ∷ es) new = (middle : PlainState) × Performs plan old e middle × IsRun plan middle es new
