-- A call that is decided in its box alone is told so by its reply, and one that is decided on a word is told on which
-- kind.
use Rattle.std.proofs.Common.{◌≡◌, ℕ, ◌+◌, List, Option, Some, None, Bool, true, false, IsTrue, refl}
use Rattle.std.specs.Prelude.{◌==◌, if◌then◌else◌}
use Rattle.block_words.specs.declared.Way.{Way}
use Rattle.line_plan.specs.Frames.{BoxFields}
use Rattle.line_plan.specs.Plans.{PlanFields}
use Rattle.line_law.specs.declared.call.Act.{Act}
use Rattle.line_law.specs.declared.call.Call.{Call}
use Rattle.line_law.specs.declared.call.Reply.{Reply}
use Rattle.line_law.specs.declared.call.Reply.TheVariants as replies
use Rattle.line_law.specs.declared.state.Bell.{Bell}
use Rattle.line_law.specs.declared.state.Block.{Block}
use Rattle.line_law.specs.declared.state.BoxState.{BoxState}
use Rattle.line_law.specs.declared.state.PairState.{PairState}
use Rattle.line_law.specs.declared.state.Passage.{Passage}
use Rattle.line_law.specs.Arrivals.{next_number, next_train, train_awaited, train_berthed, train_cleared, train_parted}
use Rattle.line_law.specs.Bells.{awaited, heard, rung, silent}
use Rattle.line_law.specs.Decisions.{Told, Decision, Here, OnBell, OnBlock, OnPlainLine, on_pair}
use Rattle.line_law.specs.Instruments.{same_position}
use Rattle.line_law.specs.Law.{decide, step}
use Rattle.line_law.specs.Levers.{is_unspent_clear}
use Rattle.line_law.specs.Outcomes.{Outcome, Refused, Rings, Hears, AwaitsBell, Turns, AwaitsBlock, PullsStarter}
use Rattle.line_law.specs.Outcomes.{Enters, AwaitsTrain, Berths, Parts, Clears}
use Rattle.line_law.specs.Refusals.{is_refused_here}
use Rattle.line_law.specs.States.{LineState}
use Rattle.line_law.specs.Trains.{holds}
use Rattle.line_law.specs.Ways.{of_way}
use Rattle.line_law.proofs.Outcomes.{outcome_of}
use Rattle.word_laws.specs.Footprint.{Kind, Tally, BellWord, BlockWord, PlainLineWord, kind_at, kind_of}
use Rattle.word_laws.specs.TellsWord.{kind_told}

-- a refusal by the box alone tells of no word
of_box : (reply : Reply) → IsTrue (is_refused_here reply) → kind_told reply ≡ Tally
of_box (replies.Rung k) h = absurd cc
of_box (replies.BellBusy code k) h = absurd cc
of_box (replies.Heard code k) h = absurd cc
of_box (replies.Silent k) h = absurd cc
of_box (replies.BellNotYet shown k) h = absurd cc
of_box (replies.Turned v) h = absurd cc
of_box (replies.Seen v) h = absurd cc
of_box (replies.BlockNotYet shown v) h = absurd cc
of_box (replies.PulledUnder v) h = absurd cc
of_box (replies.HeldByInstrument way shown spent v) h = absurd cc
of_box (replies.Entered train k) h = absurd cc
of_box (replies.SectionFull k) h = absurd cc
of_box (replies.Approaching train j) h = absurd cc
of_box (replies.TrainNotYet j) h = absurd cc
of_box (replies.Berthed train j) h = absurd cc
of_box (replies.PartBerthed train j) h = absurd cc
of_box (replies.NoTrainAt j) h = absurd cc
of_box (replies.Cleared train j) h = absurd cc
of_box reply h = refl

-- ---- what a decision tells

-- every reply of a decision tells its kind of word
abbrev pub TellsKind : Decision → Type 0
TellsKind (Here reply here) = kind_told reply ≡ Tally
TellsKind (OnBell act) = (bell : Bell) → kind_told (act bell).reply ≡ BellWord
TellsKind (OnBlock act) = (block : Block) → kind_told (act block).reply ≡ BlockWord
TellsKind (OnPlainLine act) = (line : List Passage) → kind_told (act line).reply ≡ PlainLineWord

rung_tells : (here : BoxState) (side : Way) (code count : ℕ) (u : Option ℕ)
    → kind_told (rung here side code count u).reply ≡ BellWord
rung_tells here side code count None = refl
rung_tells here side code count (Some held) = refl

heard_tells : (here : BoxState) (count : ℕ) (u : Option ℕ) → kind_told (heard here count u).reply ≡ BellWord
heard_tells here count None = refl
heard_tells here count (Some code) = refl

if_tells : {W : Type 0} (kind : Kind) (b : Bool) (x y : Told W) → kind_told x.reply ≡ kind → kind_told y.reply ≡ kind
    → kind_told (if b then x else y).reply ≡ kind
if_tells kind true x y h g = h
if_tells kind false x y h g = g

awaited_tells : (here : BoxState) (code count : ℕ) (u : Option ℕ)
    → kind_told (awaited here code count u).reply ≡ BellWord
awaited_tells here code count None = refl
awaited_tells here code count (Some held) =
    if_tells {W = Bell} BellWord (held == code)
    (record { reply = replies.Heard held count; here = here; word = silent count })
    (record {
      reply = replies.BellNotYet (Some held) count;
      here = here;
      word =
          record { count = count; unheard = Some held };
    }) refl refl

train_tells : (t : Option ℕ) (here : BoxState) (j : ℕ) (line : List Passage)
    → kind_told (train_awaited t here j line).reply ≡ PlainLineWord
train_tells None here j line = refl
train_tells (Some train) here j line = refl

berthed_tells : (t : Option ℕ) (here : BoxState) (way : Way) (place j : ℕ) (line : List Passage)
    → kind_told (train_berthed t here way place j line).reply ≡ PlainLineWord
berthed_tells None here way place j line = refl
berthed_tells (Some train) here way place j line = refl

parted_tells : (t : Option ℕ) (here : BoxState) (way : Way) (place j : ℕ) (line : List Passage)
    → kind_told (train_parted t here way place j line).reply ≡ PlainLineWord
parted_tells None here way place j line = refl
parted_tells (Some train) here way place j line = refl

cleared_tells : (t : Option ℕ) (here : BoxState) (way : Way) (j : ℕ) (line : List Passage)
    → kind_told (train_cleared t here way j line).reply ≡ PlainLineWord
cleared_tells None here way j line = refl
cleared_tells (Some train) here way j line = refl

-- however a call comes out, its reply tells its kind of word
outcome_tells : (plan : PlanFields) (box_plan : BoxFields) (here : BoxState) (act : Act) (d : Decision)
    → Outcome plan box_plan here act d → TellsKind d
outcome_tells plan box_plan here act d (Refused a reply refused) = of_box reply refused
outcome_tells plan box_plan here act d (Rings side code) = λ bell. rung_tells here side code bell.count bell.unheard
outcome_tells plan box_plan here act d (Hears side) = λ bell. heard_tells here bell.count bell.unheard
outcome_tells plan box_plan here act d (AwaitsBell side code) = λ bell. awaited_tells here code bell.count bell.unheard
outcome_tells plan box_plan here act d (Turns way p b e free) = λ block. refl
outcome_tells plan box_plan here act d (AwaitsBlock way p) =
    λ block. if_tells BlockWord (same_position block.position p) _ _ refl refl
outcome_tells plan box_plan here act d (PullsStarter lever way e free) =
    λ block. if_tells BlockWord (is_unspent_clear block) _ _ refl refl
outcome_tells plan box_plan here act d (Enters a lever signal train way e to there moves) =
    λ line. if_tells PlainLineWord (holds line (of_way here.sent way + 1)) _ _ refl refl
outcome_tells plan box_plan here act d (AwaitsTrain way) =
    λ line. train_tells (next_train here way line) here (next_number here way) line
outcome_tells plan box_plan here act d (Berths way b e free) =
    λ line. berthed_tells (next_train here way line) here way b.place (next_number here way) line
outcome_tells plan box_plan here act d (Parts way b e free) =
    λ line. parted_tells (next_train here way line) here way b.place (next_number here way) line
outcome_tells plan box_plan here act d (Clears way free) =
    λ line. cleared_tells (next_train here way line) here way (next_number here way) line
outcome_tells plan box_plan here act d out = refl

-- every call's reply tells its kind of word
pub decision_tells : (plan : PlanFields) (box_plan : BoxFields) (act : Act) (here : BoxState)
    → TellsKind (decide plan box_plan act here)
decision_tells plan box_plan act here =
    outcome_tells plan box_plan here act _ (outcome_of plan box_plan act here)

-- the reply in the pair
pub told_in_pair : (d : Decision) (way : Way) (pair : PairState) → TellsKind d
    → kind_told (on_pair way d pair).reply ≡ kind_of d
told_in_pair (Here reply here) way pair h = h
told_in_pair (OnBell act) way pair h = h (of_way pair.bells way)
told_in_pair (OnBlock act) way pair h = h (of_way pair.blocks way)
told_in_pair (OnPlainLine act) way pair h = h (of_way pair.lines way)

-- the reply in the line
pub kind_is_told : (plan : PlanFields) (state : LineState) (b : ℕ) (call : Call)
    → kind_told (step plan state b call).reply ≡ kind_at plan state b call
unfolding step
kind_is_told plan state b call = told_in_pair _ _ _ (decision_tells plan _ call.act _)
