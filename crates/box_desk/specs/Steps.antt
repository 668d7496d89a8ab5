-- How the two steps of a call stand to the law's decision.
use Rattle.std.specs.Prelude.{ℕ, ◌≡◌, Option, Some, None, Bool, true, false}
use Rattle.line_plan.specs.Frames.{BoxFields}
use Rattle.line_plan.specs.Plans.{PlanFields}
use Rattle.line_law.specs.declared.call.Act.{Act}
use Rattle.line_law.specs.declared.call.Act.TheVariants.{AwaitBell, AwaitBlock, AwaitTrain}
use Rattle.line_law.specs.declared.call.Call.{Call}
use Rattle.line_law.specs.declared.call.Reply.{Reply}
use Rattle.line_law.specs.declared.state.BoxState.{BoxState}
use Rattle.line_law.specs.declared.state.PairState.{PairState}
use Rattle.line_law.specs.declared.link.Link.{Link}
use Rattle.line_law.specs.Decisions.{Decision, Here, OnBell, OnBlock, OnPlainLine, Told, on_pair}
use Rattle.line_law.specs.Links.{way_of}
use Rattle.word_laws.specs.Footprint.{kind_of}
use Rattle.word_laws.specs.Operations.{IsOnWord, first_op, second_op}
use Rattle.word_laws.specs.WordNumbers.{Agrees, NumberAgrees, number_at}
use Rattle.box_desk.specs.declared.ask.Step.{Step}
use Rattle.box_desk.specs.declared.ask.Step.TheVariants.{Local, NeedsWord}
use Rattle.box_desk.specs.declared.ask.WordAsk.{WordAsk}

-- ---- the first step

-- what a call makes of its box alone: the law's reply and box; and nothing, where it is decided on a word
abbrev pub Locally : Decision → BoxState → Option Reply → BoxState → Type 0
Locally (Here reply after) old told new = (told ≡ Some reply) × (new ≡ after)
Locally (OnBell act) old told new = (told ≡ None) × (new ≡ old)
Locally (OnBlock act) old told new = (told ≡ None) × (new ≡ old)
Locally (OnPlainLine act) old told new = (told ≡ None) × (new ≡ old)

-- a call that looks until it is satisfied
abbrev pub awaits_of : Act → Bool
awaits_of (AwaitBell side code) = true
awaits_of (AwaitBlock way position) = true
awaits_of (AwaitTrain way) = true
awaits_of act = false

-- what a call of a box in this state asks for: the operations that the law's table names
abbrev pub ask_of : PlanFields → BoxFields → Call → BoxState → WordAsk
ask_of plan box_plan call here =
    record {
      call = call;
      first = first_op plan box_plan call.act here;
      second = second_op plan box_plan call.act here;
      awaits = awaits_of call.act;
    }

-- the first step of a call in its box: the law's reply and box, or what it asks for, with the box as it was
abbrev pub Prepares : Decision → WordAsk → BoxState → Step → BoxState → Type 0
Prepares (Here reply after) ask old step new = (step ≡ Local reply) × (new ≡ after)
Prepares (OnBell act) ask old step new = (step ≡ NeedsWord ask) × (new ≡ old)
Prepares (OnBlock act) ask old step new = (step ≡ NeedsWord ask) × (new ≡ old)
Prepares (OnPlainLine act) ask old step new = (step ≡ NeedsWord ask) × (new ≡ old)

-- ---- the second step

-- the law's reply, and the box that the law leaves
pub record IsTold (Word : Type 0) (told : Told Word) (reply : Reply) (here : BoxState) : Type 0 where
  pub reply_is : told.reply ≡ reply
  pub here_is : told.here ≡ here

-- the call is decided on a word, and this number agrees with the box as that word
pub record WordAgrees (decision : Decision) (link : Link) (here : BoxState) (word : ℕ) : Type 0 where
  pub on_word : IsOnWord (kind_of decision)
  pub agrees : NumberAgrees (kind_of decision) link here word

-- the law's reply and box, in every pair that agrees with the box and whose number the word is
abbrev pub Finishes : Decision → Link → BoxState → ℕ → Reply → BoxState → Type 0
Finishes decision link old word reply new =
    (pair : PairState) → Agrees (kind_of decision) link old pair
    → number_at (kind_of decision) (way_of link) pair ≡ word
    → IsTold PairState (on_pair (way_of link) decision pair) reply new
