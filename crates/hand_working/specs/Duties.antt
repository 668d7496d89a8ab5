-- What the man at a box has done on duty, and what a typed line makes of it.
use Rattle.std.specs.Prelude.{ℕ, ◌<◌, ◌≤◌, List, [], ◌∷◌, ◌++◌, All, max}
use Rattle.line_plan.specs.Plans.{PlanFields}
use Rattle.line_law.specs.declared.call.Call.{Call}
use Rattle.line_law.specs.declared.call.Entry.{Entry}
use Rattle.line_law.specs.History.{state_of}
use Rattle.line_law.specs.Known.{moments_of}
use Rattle.line_law.specs.States.{LineState}
use Rattle.box_session.specs.Sessions.{SessionFields, last_moment, session_journal}
use Rattle.typed_words.specs.Typed.{TypedLine}

-- ---- the line on which he works

-- the plan, his box, and the calls of the scripts; that of his own box is empty
pub record Post : Type 0 where
  pub plan : PlanFields
  pub box_no : ℕ
  pub scripts : List (List Call)

-- ---- what he has done

-- His calls that aren't taken back; before each, the moment to which his clock was set; and the moment of his next
-- call, where he types none.
pub record Doings : Type 0 where
  pub calls : List Call
  pub befores : List ℕ
  pub moment : ℕ

-- he comes on duty
abbrev pub no_doings : Doings
no_doings = record { calls = []; befores = []; moment = 0 }

-- all but the last of a list
abbrev pub without_last : {A : Type 0} → List A → List A
without_last [] = []
without_last (x ∷ []) = []
without_last (x ∷ (y ∷ xs)) = x ∷ without_last (y ∷ xs)

-- the last of these moments, or another where there is none
abbrev pub last_or : ℕ → List ℕ → ℕ
last_or other [] = other
last_or other (moment ∷ moments) = last_or moment moments

-- he makes a call: his clock goes on to its moment
abbrev pub with_made : Doings → Call → Doings
with_made doings call = record {
  calls = doings.calls ++ call ∷ [];
  befores = doings.befores ++ doings.moment ∷ [];
  moment = call.moment;
}

-- he takes his last call back, if there is one: his clock goes back to where it was before it, which isn't before his
-- last call that stays
abbrev pub taken_back : Doings → Doings
taken_back doings = record {
  calls = without_last doings.calls;
  befores = without_last doings.befores;
  moment = max (last_or doings.moment doings.befores) (last_moment (without_last doings.calls));
}

-- a typed line: only a call, `undo` and `at` make a difference
abbrev pub after_typed : Doings → TypedLine → Doings
after_typed doings (TypedLine.Call call) = with_made doings call
after_typed doings (TypedLine.At moment) = record doings { moment = moment }
after_typed doings TypedLine.Undo = taken_back doings
after_typed doings typed = doings

-- ---- what is so of them

-- the journal of the line, as he and the others have made it
abbrev pub journal_at : Post → Doings → List Entry
journal_at post doings = session_journal post.plan post.scripts post.box_no doings.calls

-- the line as that leaves it
abbrev pub state_at : Post → Doings → LineState
state_at post doings = state_of post.plan (journal_at post doings)

-- his clock isn't before his last call, and is set within the day
pub record AreDoings (version : ℕ) (doings : Doings) : Type 0 where
  pub later : last_moment doings.calls ≤ doings.moment
  pub day : doings.moment < moments_of version
  pub days : All (λ moment. moment < moments_of version) doings.befores

-- ---- a duty, as its callers see it

-- the session, and his clock before each of his calls and now
pub record DutyFields : Type 0 where
  pub session : SessionFields
  pub befores : List ℕ
  pub moment : ℕ

-- where he works
abbrev pub post_of : DutyFields → Post
post_of duty = record {
  plan = duty.session.plan;
  box_no = duty.session.box_no;
  scripts = duty.session.scripts;
}

-- what he has done
abbrev pub doings_of : DutyFields → Doings
doings_of duty = record { calls = duty.session.calls; befores = duty.befores; moment = duty.moment }
