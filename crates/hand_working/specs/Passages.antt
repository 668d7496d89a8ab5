-- What is put for a typed line.
use Rattle.std.specs.Prelude.{◌≡◌, ℕ, ◌+◌, Bool, true, false, ◌&&◌, not, List, [], ◌∷◌, ◌++◌, Option, Some, None}
use Rattle.std.specs.Prelude.{codes, drop, length}
use mathlib.Core.List.{IsPrefix}
use Rattle.line_plan.specs.Plans.{PlanFields, box_at as box_plan_at}
use Rattle.line_law.specs.declared.call.Call.{Call}
use Rattle.line_law.specs.declared.call.Entry.{Entry}
use Rattle.line_law.specs.declared.call.Reply.{Reply}
use Rattle.line_law.specs.History.{entry_of, part_of}
use Rattle.line_law.specs.Refusals.{is_refused}
use Rattle.script_text.specs.Calls.{call_text}
use Rattle.train_register.specs.Registers.{register_text}
use Rattle.typed_words.specs.Typed.{TypedLine, line_read}
use Rattle.box_view.specs.Answers.{TellsAnswer}
use Rattle.box_view.specs.Listeners.{listener_of}
use Rattle.box_view.specs.Look.{look_text}
use Rattle.box_view.specs.Moves.{TellsMoves}
use Rattle.box_view.specs.Notices.{notices_text}
use Rattle.box_view.specs.declared.notices.Listener.{Listener}
use Rattle.due_hints.specs.Hints.{hint_of, hint_text}
use Rattle.due_hints.specs.declared.hint.Hint.{Hint}
use Rattle.hand_working.specs.declared.manner.Manner.{Manner}
use Rattle.hand_working.specs.Duties.{Doings, Post, after_typed, journal_at, state_at, with_made}
use Rattle.hand_working.specs.Tones.{cyan, in_tone, no_colour, red, tone_text}

-- ---- the line again

-- a call as a script has it, anything else as it was typed
abbrev pub echo_words : Post → List ℕ → TypedLine → List ℕ
echo_words post line (TypedLine.Call call) = call_text post.plan call
echo_words post line typed = line

-- the line as it is echoed, where lines are
abbrev pub echo_text : Bool → Post → List ℕ → TypedLine → List ℕ
echo_text false post line typed = []
echo_text true post line typed = codes "> " ++ echo_words post line typed ++ 10 ∷ []

-- ---- the answer

-- the entry of a call that he makes: its reply is the law's
abbrev pub entry_at : Post → Doings → Call → Entry
entry_at post doings call = entry_of post.plan (state_at post doings) post.box_no call

-- the man of the box, as what he has done leaves him
abbrev pub listener_at : Post → Doings → Listener
listener_at post doings = listener_of (state_at post doings) post.box_no (journal_at post doings)

-- what the others do behind a call of his
abbrev pub behind_call : Post → Doings → Call → List Entry
behind_call post doings call =
    drop (length (journal_at post doings) + 1) (journal_at post (with_made doings call))

-- a refusal has a colour, where colours are wanted
abbrev pub is_red : Bool → Reply → Bool
is_red colours reply = colours && is_refused reply

-- behind a text comes what a call was answered, in red where that is wanted
pub record IsShown (is_red : Bool) (reply : Reply) (old new : List ℕ) : Type 0 where
  pub answered : List ℕ
  pub answer : TellsAnswer reply (old ++ tone_text is_red red) answered
  pub ends : new ≡ answered ++ tone_text is_red no_colour

-- a call is answered by what the law replies, and then comes what he notices of what the others do behind it
pub record TellsCall (colours : Bool) (post : Post) (doings : Doings) (call : Call) (old new : List ℕ) : Type 0 where
  pub answered : List ℕ
  pub answer : IsShown (is_red colours (entry_at post doings call).reply) (entry_at post doings call).reply old answered
  pub notices : new ≡ answered ++ in_tone colours cyan
      (notices_text post.plan (listener_at post (with_made doings call)) (behind_call post doings call))

-- What a typed line is answered, behind a text: a call so; `look` by how his box stands, `may` by which levers may be
-- moved, `book` by his register so far. The words of the other answers are free.
abbrev pub IsAnswered : Bool → Post → Doings → TypedLine → List ℕ → List ℕ → Type 0
IsAnswered colours post doings (TypedLine.Call call) old new = TellsCall colours post doings call old new
IsAnswered colours post doings TypedLine.Look old new =
    new ≡ old ++ look_text post.plan (state_at post doings) post.box_no doings.moment
IsAnswered colours post doings TypedLine.May old new =
    TellsMoves post.plan (state_at post doings) post.box_no doings.moment
    (box_plan_at post.plan.boxes post.box_no).levers old new
IsAnswered colours post doings TypedLine.Book old new =
    new ≡ old ++ register_text post.plan post.box_no (part_of post.box_no (journal_at post doings))
IsAnswered colours post doings typed old new = IsPrefix old new

-- ---- what is due

-- what is due, where hints are wanted and exactly one thing is due
abbrev pub due_text : Bool → PlanFields → Option Hint → List ℕ
due_text false plan hint = []
due_text true plan None = []
due_text true plan (Some hint) = codes "hint: " ++ hint_text plan hint

-- the same at his box, as what he has done leaves the line
abbrev pub due_at : Bool → Post → Doings → List ℕ
due_at wanted post doings =
    due_text wanted post.plan
    (hint_of post.plan (state_at post doings) post.box_no (journal_at post doings))

-- he goes off duty by the line
abbrev pub is_end : TypedLine → Bool
is_end TypedLine.End = true
is_end typed = false

-- ---- when he comes on duty

-- what he notices of all that was done so far, and what is due
abbrev pub opening_text : Manner → Post → Doings → List ℕ
opening_text manner post doings =
    in_tone manner.colours cyan (notices_text post.plan (listener_at post doings) (journal_at post doings))
    ++ due_at manner.hints post doings

-- ---- all of it

-- what he has done behind a line
abbrev pub after_line : Post → Doings → List ℕ → Doings
after_line post doings line = after_typed doings (line_read post.plan post.box_no doings.moment line)

-- What is put for a line that comes to this: itself, where lines are echoed; its answer; and what is due then, unless
-- he goes off duty by it.
pub record TellsLine (manner : Manner) (post : Post) (doings : Doings) (line : List ℕ) (typed : TypedLine)
    (text : List ℕ) : Type 0 where
  pub answered : List ℕ
  pub answer : IsAnswered manner.colours post doings typed (echo_text manner.echoes post line typed) answered
  pub due : text ≡ answered ++ due_at (manner.hints && not (is_end typed)) post (after_typed doings typed)

-- what is put for a line
abbrev pub IsPassage : Manner → Post → Doings → List ℕ → List ℕ → Type 0
IsPassage manner post doings line text =
    TellsLine manner post doings line (line_read post.plan post.box_no doings.moment line) text
