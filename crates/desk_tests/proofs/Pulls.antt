-- A pull that is decided on a word meets the instrument of an outgoing line, whatever that shows.
use Rattle.std.proofs.Common.{◌≡◌, ℕ, ◌^◌, ◌<◌, Option, refl, sym, subst}
use Rattle.block_words.specs.declared.Way.{Way}
use Rattle.block_words.specs.declared.Way.TheVariants.{Up, Down}
use Rattle.line_plan.specs.Frames.{BoxFields}
use Rattle.line_plan.specs.Plans.{PlanFields}
use Rattle.line_law.specs.declared.call.Act.{Act}
use Rattle.line_law.specs.declared.call.Act.TheVariants as acts
use Rattle.line_law.specs.declared.call.Call.{Call}
use Rattle.line_law.specs.declared.link.Link.TheVariants.{Out}
use Rattle.line_law.specs.declared.state.Block.{Block}
use Rattle.line_law.specs.declared.state.BoxState.{BoxState}
use Rattle.line_law.specs.declared.state.PairState.{PairState}
use Rattle.line_law.specs.Decisions.{Decision}
use Rattle.line_law.specs.Known.{KnowsCall}
use Rattle.line_law.specs.Law.{at_moment, box_plan_of, decide, link_of}
use Rattle.line_law.specs.Levers.{starter_link}
use Rattle.line_law.specs.Outcomes.{Passes, Overruns, Outcome, Refused, Rings, Hears, AwaitsBell, Turns, AwaitsBlock}
use Rattle.line_law.specs.Outcomes.{Pulls, PullsStarter, Puts, Brings, GoesTo, GoesAway, Enters, AwaitsTrain, Berths}
use Rattle.line_law.specs.Outcomes.{Parts, Clears, Winds, Releases}
use Rattle.line_law.specs.States.{opening_pair}
use Rattle.word_laws.specs.Footprint.{BlockWord, kind_of}
use Rattle.word_laws.specs.Operations.{IsOnWord}
use Rattle.word_laws.specs.WordNumbers.{NumberAgrees, block_number}
use Rattle.line_law.proofs.Outcomes.{outcome_of}
use Rattle.box_desk.specs.declared.ask.Step.{Step}
use Rattle.box_desk.specs.declared.ask.Step.TheVariants.{NeedsWord}
use Rattle.box_desk.specs.declared.ask.WordAsk.{WordAsk}
use Rattle.box_desk.specs.Desks.{Answers, DeskFields, IsAsked, IsDeskOf, WordMeets, moved_to}
use Rattle.box_desk.specs.Steps.{ask_of}
use Rattle.desk_tests.proofs.Calls.{stays_desk, word_answer}

-- a pair whose instruments are both so
abbrev pair_with : Block → PairState
pair_with block = record opening_pair { blocks = record { up = block; down = block } }

any_number : (here : BoxState) (way : Way) (block : Block) → block.turns < 2 ^ 61
    → NumberAgrees BlockWord (Out way) here (block_number block)
any_number here Up block few = record {
  pair = pair_with block;
  agrees = record { count = few; turned = tt };
  packs = refl;
}
any_number here Down block few = record {
  pair = pair_with block;
  agrees = record { count = few; turned = tt };
  packs = refl;
}

pub pull_agrees : (plan : PlanFields) (box_plan : BoxFields) (act : Act) (here : BoxState) (d : Decision) (lever : ℕ)
    (block : Block)
    → Outcome plan box_plan here act d → act ≡ acts.Pull lever → IsOnWord (kind_of d) → block.turns < 2 ^ 61
    → NumberAgrees (kind_of d) (link_of box_plan act) here (block_number block)
pull_agrees plan box_plan act here d lever block (Refused a reply refused) same on few = absurd on
pull_agrees plan box_plan act here d lever block (Rings side code) same on few = absurd cc
pull_agrees plan box_plan act here d lever block (Hears side) same on few = absurd cc
pull_agrees plan box_plan act here d lever block (AwaitsBell side code) same on few = absurd cc
pull_agrees plan box_plan act here d lever block (Turns way p berth e free) same on few = absurd cc
pull_agrees plan box_plan act here d lever block (AwaitsBlock way p) same on few = absurd cc
pull_agrees plan box_plan act here d lever block (Pulls l e free) same on few = absurd on
pull_agrees plan box_plan act here d lever block (PullsStarter l way e free) same on few =
    subst (λ (w : Option Way). NumberAgrees BlockWord (starter_link w) here (block_number block)) (sym e)
    (any_number here way block few)
pull_agrees plan box_plan act here d lever block (Puts l free) same on few = absurd on
pull_agrees plan box_plan act here d lever block (Brings train free) same on few = absurd on
pull_agrees plan box_plan act here d lever block (GoesTo a l signal train place e to there moves) same on few =
    absurd on
pull_agrees plan box_plan act here d lever block (GoesAway a l signal train e to there moves) same on few = absurd on
pull_agrees plan box_plan act here d lever block (Enters a l signal train way e to there (Passes free)) same on few =
    absurd cc
pull_agrees plan box_plan act here d lever block (Enters a l signal train way e to there (Overruns free)) same on few =
    absurd cc
pull_agrees plan box_plan act here d lever block (AwaitsTrain way) same on few = absurd cc
pull_agrees plan box_plan act here d lever block (Berths way berth e free) same on few = absurd cc
pull_agrees plan box_plan act here d lever block (Parts way berth e free) same on few = absurd cc
pull_agrees plan box_plan act here d lever block (Clears way free) same on few = absurd cc
pull_agrees plan box_plan act here d lever block (Winds way free) same on few = absurd on
pull_agrees plan box_plan act here d lever block (Releases way free) same on few = absurd on

-- a desk that has asked a word for a pull meets any instrument
pub pull_meets : (plan : PlanFields) (b : ℕ) (call : Call) (old new : DeskFields) (told : Step) (ask : WordAsk)
    (lever : ℕ)
    → IsDeskOf plan b old → KnowsCall plan b call
    → Answers (decide plan (box_plan_of plan b) call.act (at_moment old.here call.moment))
    (ask_of plan (box_plan_of plan b) call (at_moment old.here call.moment)) (moved_to old call.moment) told new
    → told ≡ NeedsWord ask → call.act ≡ acts.Pull lever → (block : Block) → block.turns < 2 ^ 61
    → IsAsked plan b new ask × WordMeets plan b new ask (block_number block)
pull_meets plan b call old new told ask lever of known h e pull block few =
    let w = word_answer _ _ ask _ told new h e in
    subst (λ (a : WordAsk). IsAsked plan b new a × WordMeets plan b new a (block_number block)) (sym w.ask_is)
    (subst (λ (d : DeskFields). IsAsked plan b d (ask_of plan (box_plan_of plan b) call
    (at_moment old.here call.moment)) × WordMeets plan b d (ask_of plan (box_plan_of plan b) call
    (at_moment old.here call.moment)) (block_number block)) (sym w.new_is)
    ((
      record {
        desk_of = stays_desk plan b old (at_moment old.here call.moment) old.calls of;
        known = known;
        moment = refl;
        on_word = w.on_word;
        is_ask = refl;
      },
      pull_agrees plan (box_plan_of plan b) call.act (at_moment old.here call.moment) _ lever block
          (outcome_of plan (box_plan_of plan b) call.act (at_moment old.here call.moment)) pull w.on_word few,
    )))
