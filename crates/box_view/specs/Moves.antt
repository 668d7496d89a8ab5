-- Which levers of a box may be moved.
use Rattle.std.specs.Prelude.{◌≡◌, ℕ, Bool, true, false, List, [], ◌∷◌, ◌++◌, codes, decimal, if◌then◌else◌}
use Rattle.line_plan.specs.Plans.{PlanFields}
use Rattle.line_plan.specs.declared.frame.Lever.{Lever}
use Rattle.line_law.specs.declared.call.Act.{Act}
use Rattle.line_law.specs.declared.call.Act.TheVariants as acts
use Rattle.line_law.specs.declared.call.Entry.{Entry}
use Rattle.line_law.specs.declared.call.Reply.{Reply}
use Rattle.line_law.specs.declared.call.Reply.TheVariants.{AlreadyReversed, Pulled, PulledUnder, Put}
use Rattle.line_law.specs.declared.state.BoxState.{BoxState}
use Rattle.line_law.specs.History.{entry_of}
use Rattle.line_law.specs.LeverEnds.{is_pulled}
use Rattle.line_law.specs.States.{LineState, box_at}
use Rattle.reply_sentences.specs.Sentences.{Says}

-- the call that moves a lever to its other end: it is put back where it is reversed, and else pulled
abbrev pub move_of : BoxState → ℕ → Act
move_of here lever = if is_pulled here.ends lever then acts.Put lever else acts.Pull lever

-- that call of box b at a moment, and what the law replies to it
abbrev pub move_entry : PlanFields → LineState → ℕ → ℕ → ℕ → Entry
move_entry plan state b moment lever =
    entry_of plan state b (record { moment = moment; act = move_of (box_at state b) lever })

-- a reply by which a lever is moved
abbrev pub is_moved : Reply → Bool
is_moved Pulled = true
is_moved (PulledUnder v) = true
is_moved Put = true
is_moved reply = false

-- a pull is refused since the lever is reversed
abbrev pub is_reversed_already : Reply → Bool
is_reversed_already AlreadyReversed = true
is_reversed_already reply = false

-- ---- as text

-- what is done to a lever by a call
abbrev pub moved_word : Act → List ℕ
moved_word (acts.Put lever) = codes "put back"
moved_word act = codes "pulled"

-- a lever may be moved so
abbrev pub may_text : ℕ → Act → List ℕ
may_text lever act = codes "lever " ++ decimal lever ++ codes " may be " ++ moved_word act

-- a lever may not be moved so, for a reason that comes behind
abbrev pub may_not_text : ℕ → Act → List ℕ
may_not_text lever act = codes "lever " ++ decimal lever ++ codes " may not be " ++ moved_word act ++ codes ": "

-- behind a text comes the line of a lever that may be moved by a call, or may not: then with the reason, as a sentence
abbrev pub TellsLever : Bool → ℕ → Act → List ℕ → List ℕ → Type 0
TellsLever true lever act old new = new ≡ old ++ may_text lever act ++ 10 ∷ []
TellsLever false lever act old new =
    (middle : List ℕ) × Says (old ++ may_not_text lever act) middle × (new ≡ middle ++ 10 ∷ [])

-- behind a text comes the line of a lever of box b: it may be moved at this moment exactly where the law's reply to the
-- call that moves it is that it is moved
abbrev pub TellsMove : PlanFields → LineState → ℕ → ℕ → ℕ → List ℕ → List ℕ → Type 0
TellsMove plan state b moment lever old new =
    TellsLever (is_moved (move_entry plan state b moment lever).reply) lever (move_of (box_at state b) lever) old new

-- behind a text come the lines of these levers of box b, one for each, in order
abbrev pub TellsMoves : PlanFields → LineState → ℕ → ℕ → List Lever → List ℕ → List ℕ → Type 0
TellsMoves plan state b moment [] old new = new ≡ old
TellsMoves plan state b moment (lever ∷ levers) old new =
    (middle : List ℕ)
    × TellsMove plan state b moment lever.number old middle
    × TellsMoves plan state b moment levers middle new
