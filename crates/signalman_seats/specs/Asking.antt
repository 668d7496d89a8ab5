-- A call on a word, operation by operation.
use Rattle.std.specs.Prelude.{◌≡◌, ℕ, ◌≤◌, ◌+◌, Bool, true, false, List, [], ◌∷◌, ◌++◌, Result, IfOk, IfErr, IsOk}
use Rattle.block_words.specs.declared.WordOp.{WordOp}
use Rattle.line_plan.specs.Plans.{PlanFields}
use Rattle.line_law.specs.declared.call.Call.{Call}
use Rattle.line_law.specs.declared.call.Entry.{Entry}
use Rattle.line_law.specs.History.{IsLegal, entry_of, state_of}
use Rattle.line_law.specs.Law.{box_plan_of}
use Rattle.line_law.specs.States.{box_at}
use Rattle.word_laws.specs.WordNumbers.{Word, one_if, word_of}
use Rattle.box_desk.specs.declared.ask.WordAsk.{WordAsk}
use Rattle.box_desk.specs.Desks.{DeskFields, IsAsked}
use Rattle.word_laws.specs.Operations.{first_op, met_by}
use Rattle.box_desk.specs.Steps.{awaits_of}
use Rattle.instrument_rule.specs.declared.view.View.{View}
use Rattle.instrument_rule.specs.Calls.{MayStep, Sits, here_at, op_word}
use Rattle.instrument_rule.specs.Rule.{Seen}
use Rattle.instrument_rule.specs.Told.{WordRead, Tells}
use Rattle.instrument_rule.specs.Views.{caller_of}
use Rattle.signalman_seats.specs.Looks.{InVain}

-- the desk of the post's first box stands as the post has seen the box, at the moment of the call, and asks this
pub record AsksAt (plan : PlanFields) (v : View) (desk : DeskFields) (ask : WordAsk) : Type 0 where
  pub asked : IsAsked plan (caller_of v.posts) desk ask
  pub here : desk.here ≡ here_at plan v.seen (caller_of v.posts) ask.call

-- so many looks were taken, none of them a glance, at which nothing was decided: others may have moved on, and the
-- post's own boxes stay
pub record Watched (plan : PlanFields) (v : View) (looks : ℕ) (w : View) : Type 0 where
  pub seen : Seen w.seen v.posts v.seen
  pub same_box : box_at (state_of plan w.seen) (caller_of v.posts) ≡ box_at (state_of plan v.seen) (caller_of v.posts)
  pub same_plan : w.plan ≡ v.plan
  pub posts : w.posts ≡ v.posts
  pub olds : w.olds ≡ []
  pub looked : w.looks ≡ v.looks + looks
  pub glances : w.glances ≡ v.glances

-- the word of a call's first operation, at which an await looks
abbrev pub look_word : PlanFields → View → Call → Word
look_word plan v call =
    op_word (caller_of v.posts) call.act
    (first_op plan (box_plan_of plan (caller_of v.posts)) call.act (here_at plan v.seen (caller_of v.posts) call))

-- so many looks of a call were all at its word, and in vain
pub record Waited (plan : PlanFields) (call : Call) (v : View) (looks : ℕ) (w : View) : Type 0 where
  pub watched : Watched plan v looks w
  pub in_vain : InVain plan (caller_of v.posts) call (look_word plan v call) looks v.seen w.seen

-- the call has taken so many looks at most, and all of them, in vain, where an await has not met what it looked for
abbrev pub Looked : PlanFields → Call → ℕ → View → ℕ → View → Type 0
Looked plan call looks v n w =
    (l : ℕ) × (w.looks ≡ v.looks + l) × (l ≤ looks)
    × (awaits_of call.act ≡ true
    → met_by (box_plan_of plan (caller_of v.posts)) call.act (here_at plan v.seen (caller_of v.posts) call) n ≡ false
    → (l ≡ looks) × InVain plan (caller_of v.posts) call (look_word plan v call) looks v.seen w.seen)

-- The call was decided, where its word read n. The history that it met begins with all that the post had seen and has
-- no other entry of its boxes; the post has then seen it with the entry of the call, which is on that word. It has not
-- glanced.
pub record Decided (plan : PlanFields) (call : Call) (looks : ℕ) (v : View) (n : ℕ) (w : View) : Type 0 where
  pub log : List Entry
  pub op : WordOp
  pub met : WordRead plan log (op_word (caller_of v.posts) call.act op) v n
  pub legal : IsLegal plan (log ++ entry_of plan (state_of plan log) (caller_of v.posts) call ∷ [])
  pub its_word : op_word (caller_of v.posts) call.act op
      ≡ word_of plan (entry_of plan (state_of plan log) (caller_of v.posts) call)
  pub now : w.seen ≡ log ++ entry_of plan (state_of plan log) (caller_of v.posts) call ∷ []
  pub same_plan : w.plan ≡ v.plan
  pub posts : w.posts ≡ v.posts
  pub olds : w.olds ≡ []
  pub looked : Looked plan call looks v n w
  pub glances : w.glances ≡ v.glances

-- ---- looks

-- by this number the word falls short of what the call looks for
abbrev pub IsMissed : PlanFields → Call → View → ℕ → Type 0
IsMissed plan call v n =
    met_by (box_plan_of plan (caller_of v.posts)) call.act (here_at plan v.seen (caller_of v.posts) call) n ≡ false

-- and by this one it doesn't
abbrev pub IsHit : PlanFields → Call → View → ℕ → Type 0
IsHit plan call v n =
    met_by (box_plan_of plan (caller_of v.posts)) call.act (here_at plan v.seen (caller_of v.posts) call) n ≡ true

-- the first operation of an ask, which only a look of an await may leave undecided, has shown this number
pub record HasShown (plan : PlanFields) (desk : DeskFields) (ask : WordAsk) (last : Bool) (v : View) (shown : ℕ)
    (w : View) : Type 0 where
  pub sits : Sits plan v
  pub may : MayStep plan ask.call v
  pub asks : AsksAt plan v desk ask
  pub once : ask.awaits ≡ false → last ≡ true
  pub told : Tells plan ask.call ask.first last v shown w

-- what a first operation has come to, which is a look where the call is an await: the call was decided, before the last
-- look only by what it looks for; or it has waited at a number that falls short
pub record CameTo (plan : PlanFields) (ask : WordAsk) (last : Bool) (v : View) (found : Result ℕ ℕ) (w : View)
    : Type 0 where
  pub counted : w.looks ≡ v.looks + one_if ask.awaits
  pub decided : IfOk found (λ word. Decided plan ask.call 1 v word w)
  pub hit : last ≡ false → IfOk found (IsHit plan ask.call v)
  pub waited : IfErr found (λ word. Waited plan ask.call v 1 w × IsMissed plan ask.call v word)
  pub over : last ≡ true → IsOk found

-- what so many looks of an await have come to, none of them its last
pub record LookedOn (plan : PlanFields) (call : Call) (v : View) (taken : ℕ) (found : Result ℕ ℕ) (w : View)
    : Type 0 where
  pub counted : w.looks ≡ v.looks + taken
  pub decided : IfOk found (λ word. Decided plan call taken v word w)
  pub hit : IfOk found (IsHit plan call v)
  pub waited : IfErr found (λ word. Waited plan call v taken w × IsMissed plan call v word)
