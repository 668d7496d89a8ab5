-- A line of desks over words that are plain numbers, after a history.
use Rattle.std.specs.Prelude.{ℕ, ◌≡◌, ◌<◌, ◌≤◌, ◌^◌, ◌++◌, ◌∷◌, List, [], length, slice_index_or}
use Rattle.line_plan.specs.Plans.{IsPlan, PlanFields}
use Rattle.line_law.specs.declared.call.Call.{Call}
use Rattle.line_law.specs.declared.call.Entry.{Entry}
use Rattle.line_law.specs.declared.call.Reply.{Reply}
use Rattle.line_law.specs.History.{IsLegal, entry_of, state_of}
use Rattle.line_law.specs.Law.{MayCall, at_moment, step}
use Rattle.line_law.specs.States.{box_at}
use Rattle.word_laws.specs.WordNumbers.{Word, number_after, word_of}
use Rattle.word_laws.specs.WordPlaces.{IsWordOf, word_count, word_place}
use Rattle.box_desk.specs.declared.ask.WordAsk.{WordAsk}
use Rattle.box_desk.specs.Desks.{DeskFields, IsAsked, IsDeskOf}

-- a call that box b may make after a legal history
pub record IsReady (plan : PlanFields) (es : List Entry) (b : ℕ) (call : Call) : Type 0 where
  pub is_plan : IsPlan plan
  pub legal : IsLegal plan es
  pub few : length es < 2 ^ 32
  pub may : MayCall plan (state_of plan es) b call

-- the history with the entry of the call
abbrev pub then_called : PlanFields → List Entry → ℕ → Call → List Entry
then_called plan es b call = es ++ entry_of plan (state_of plan es) b call ∷ []

-- the word of the call
abbrev pub word_at : PlanFields → List Entry → ℕ → Call → Word
word_at plan es b call = word_of plan (entry_of plan (state_of plan es) b call)

-- the desk of box b after a history
pub record IsDeskAfter (plan : PlanFields) (es : List Entry) (b : ℕ) (desk : DeskFields) : Type 0 where
  pub desk_of : IsDeskOf plan b desk
  pub here : desk.here ≡ box_at (state_of plan es) b
  pub calls : desk.calls ≤ length es

-- the words of a line hold their numbers after a history
pub record HoldNumbers (plan : PlanFields) (es : List Entry) (words : List ℕ) : Type 0 where
  pub count : length words ≡ word_count (length plan.boxes)
  pub each : (w : Word) → IsWordOf (length plan.boxes) w
      → slice_index_or words (word_place (length plan.boxes) w) 0 ≡ number_after plan es w

-- the desk of box b after a history asks for a word, for a call that it may make
pub record Asks (plan : PlanFields) (es : List Entry) (b : ℕ) (desk : DeskFields) (ask : WordAsk) : Type 0 where
  pub ready : IsReady plan es b ask.call
  pub asked : IsAsked plan b desk ask
  pub here : desk.here ≡ at_moment (box_at (state_of plan es) b) ask.call.moment
  pub calls : desk.calls ≤ length es

-- the call's operations are done: the last met its word's number, and the words hold their numbers after the call
pub record IsOperated (plan : PlanFields) (es : List Entry) (b : ℕ) (call : Call) (met : ℕ) (words : List ℕ)
    : Type 0 where
  pub met_is : met ≡ number_after plan es (word_at plan es b call)
  pub words_hold : HoldNumbers plan (then_called plan es b call) words

-- the call is done: the reply is the law's, and desk and words are as after it
pub record IsDone (plan : PlanFields) (es : List Entry) (b : ℕ) (call : Call) (reply : Reply) (desk : DeskFields)
    (words : List ℕ) : Type 0 where
  pub reply_is : reply ≡ (step plan (state_of plan es) b call).reply
  pub desk_after : IsDeskAfter plan (then_called plan es b call) b desk
  pub words_hold : HoldNumbers plan (then_called plan es b call) words
