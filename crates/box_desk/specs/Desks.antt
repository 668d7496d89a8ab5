-- What a desk is to its callers, and what its first step answers.
use Rattle.std.specs.Prelude.{ℕ, ◌≡◌, ◌<◌, ◌≤◌, ◌+◌, ◌-◌, List, length, map, slice_index_or, IfSome, Bool, not}
use Rattle.locking_table.specs.Places.{IsLever}
use Rattle.line_plan.specs.Frames.{BoxFields, frame_size}
use Rattle.line_plan.specs.Plans.{IsPlan, PlanFields}
use Rattle.line_law.specs.declared.call.Act.{Act}
use Rattle.line_law.specs.declared.call.Act.TheVariants.{Bring, Pull, Put}
use Rattle.line_law.specs.declared.state.BoxState.{BoxState}
use Rattle.line_law.specs.declared.state.PairState.{PairState}
use Rattle.line_law.specs.Decisions.{Decision, Here, OnBell, OnBlock, OnPlainLine}
use Rattle.line_law.specs.Known.{KnowsCall}
use Rattle.line_law.specs.Law.{at_moment, box_plan_of, decide, link_of}
use Rattle.line_law.specs.Links.{way_of}
use Rattle.line_law.specs.Sound.{IsSound}
use Rattle.word_laws.specs.Footprint.{kind_of}
use Rattle.word_laws.specs.Operations.{IsOnWord}
use Rattle.word_laws.specs.SameNumbers.{told_in}
use Rattle.word_laws.specs.WordNumbers.{Agrees, NumberAgrees, number_at}
use Rattle.box_desk.specs.declared.ask.Step.{Step}
use Rattle.box_desk.specs.declared.ask.Step.TheVariants.{Local, NeedsWord}
use Rattle.box_desk.specs.declared.ask.WordAsk.{WordAsk}
use Rattle.box_desk.specs.declared.equipment.Equipment.{Equipment}
use Rattle.box_desk.specs.Boxes.{IsCounted, IsFitted, here_of}
use Rattle.box_desk.specs.Looks.{fell_short}
use Rattle.box_desk.specs.Steps.{ask_of}

-- the plan of the box; the place of each train of the line, that of train 1 first; how long a winding takes; the law's
-- box state; and how many calls were made
pub record DeskFields : Type 0 where
  pub box_plan : BoxFields
  pub train_places : List ℕ
  pub delay : ℕ
  pub here : BoxState
  pub calls : ℕ

-- what is kept of a line's plan: the place of each train, and how long a winding takes
pub record IsKeptOf (plan : PlanFields) (train_places : List ℕ) (delay : ℕ) : Type 0 where
  pub places_are : train_places ≡ map (λ train. train.place) plan.trains
  pub delay_is : delay ≡ plan.delay

-- the desk of box b of a line with that plan
pub record IsDeskOf (plan : PlanFields) (b : ℕ) (desk : DeskFields) : Type 0 where
  pub is_plan : IsPlan plan
  pub on_line : b < length plan.boxes
  pub box_plan : desk.box_plan ≡ box_plan_of plan b
  pub kept : IsKeptOf plan desk.train_places desk.delay

-- the desk after a call's moment has become that of its last call
abbrev pub moved_to : DeskFields → ℕ → DeskFields
moved_to desk moment = record desk { here = at_moment desk.here moment }

-- what the first step answers: where the call is decided in the box alone, the law's reply, with the law's box, and the
-- call is counted; else it asks for the word, and nothing has changed
abbrev pub Answers : Decision → WordAsk → DeskFields → Step → DeskFields → Type 0
Answers (Here reply after) ask old step new =
    (step ≡ Local reply) × (new ≡ record old { here = after; calls = old.calls + 1 })
Answers (OnBell act) ask old step new = (step ≡ NeedsWord ask) × (new ≡ old)
Answers (OnBlock act) ask old step new = (step ≡ NeedsWord ask) × (new ≡ old)
Answers (OnPlainLine act) ask old step new = (step ≡ NeedsWord ask) × (new ≡ old)

-- ---- what a call needs of the box

-- the frame has the lever that a call moves
abbrev pub FitsLever : BoxFields → Act → Type 0
FitsLever box_plan (Pull lever) = IsLever (frame_size box_plan.levers) lever
FitsLever box_plan (Put lever) = IsLever (frame_size box_plan.levers) lever
FitsLever box_plan act = Unit {0}

-- the line has the train that a call brings, and the box its place
abbrev pub FitsTrain : BoxFields → List ℕ → Act → Type 0
FitsTrain box_plan train_places (Bring train) =
    (0 < train) × (train - 1 < length train_places)
    × (slice_index_or train_places (train - 1) 0 < length box_plan.places)
FitsTrain box_plan train_places act = Unit {0}

-- ---- a desk

-- what the type keeps, after so many calls: the numbers of the box's plan are of the box; its equipment is the box's;
-- its counts and trains are in range; and each train of the line has its place, and was brought here or not
pub record IsDesk (box_plan : BoxFields) (train_places : List ℕ) (delay : ℕ) (box : Equipment) (calls : ℕ)
    : Type 0 where
  pub sound : IsSound box_plan
  pub fitted : IsFitted box_plan box
  pub counted : IsCounted calls (length train_places) (here_of box)
  pub few_trains : length train_places < 65536
  pub short : delay < 2147483648

-- a word is asked for: a call that the plan knows, at the moment of the last call, is decided on a word, and asks so
pub record IsAsked (plan : PlanFields) (b : ℕ) (desk : DeskFields) (ask : WordAsk) : Type 0 where
  pub desk_of : IsDeskOf plan b desk
  pub known : KnowsCall plan b ask.call
  pub moment : ask.call.moment ≡ desk.here.moment
  pub on_word : IsOnWord (kind_of (decide plan (box_plan_of plan b) ask.call.act desk.here))
  pub is_ask : ask ≡ ask_of plan (box_plan_of plan b) ask.call desk.here

-- a number agrees with the box as the word on which the call is decided
abbrev pub WordMeets : PlanFields → ℕ → DeskFields → WordAsk → ℕ → Type 0
WordMeets plan b desk ask word =
    NumberAgrees (kind_of (decide plan (box_plan_of plan b) ask.call.act desk.here))
    (link_of (box_plan_of plan b) ask.call.act) desk.here word

-- in every pair that agrees with the box and whose number the word is, the law's reply tells that the call fell short
-- exactly where the word doesn't satisfy it
abbrev pub IsMet : PlanFields → ℕ → DeskFields → Act → ℕ → Bool → Type 0
IsMet plan b desk act word met =
    (pair : PairState)
    → Agrees (kind_of (decide plan (box_plan_of plan b) act desk.here)) (link_of (box_plan_of plan b) act) desk.here
    pair
    → number_at (kind_of (decide plan (box_plan_of plan b) act desk.here)) (way_of (link_of (box_plan_of plan b) act))
    pair ≡ word
    → fell_short (told_in plan (box_plan_of plan b) act desk.here pair).reply ≡ not met

-- each permissive line of the box may hold a train at least, and three at most
pub record HasMost (box_plan : BoxFields) : Type 0 where
  pub up : IfSome box_plan.berth_up (λ berth. IfSome berth.permissive (λ n. (1 ≤ n) × (n ≤ 3)))
  pub down : IfSome box_plan.berth_down (λ berth. IfSome berth.permissive (λ n. (1 ≤ n) × (n ≤ 3)))
