-- The law of the line: the reply of one call, and the state after it.
use Rattle.std.specs.Prelude.{ℕ, ◌≤◌, slice_set}
use Rattle.block_words.specs.Ways.{opposite}
use Rattle.block_words.specs.declared.Way.TheVariants.{Down}
use Rattle.line_plan.specs.Frames.{BoxFields, berth_of}
use Rattle.line_plan.specs.Plans.{PlanFields, train_at, box_at as box_plan_at}
use Rattle.line_law.specs.declared.call.Act.{Act}
use Rattle.line_law.specs.declared.call.Act.TheVariants.{Ring, Hear, AwaitBell, Turn, AwaitBlock, Pull, Put, Bring}
use Rattle.line_law.specs.declared.call.Act.TheVariants.{Pass, Overrun, AwaitTrain, Berth, BerthPart, ClearPortion}
use Rattle.line_law.specs.declared.call.Act.TheVariants.{Wind, Release}
use Rattle.line_law.specs.declared.call.Call.{Call}
use Rattle.line_law.specs.declared.call.Reply.{Reply}
use Rattle.line_law.specs.declared.link.Link.{Link}
use Rattle.line_law.specs.declared.link.Link.TheVariants.{Out, In}
use Rattle.line_law.specs.declared.state.BoxState.{BoxState}
use Rattle.line_law.specs.declared.state.PairState.{PairState}
use Rattle.line_law.specs.Known.{KnowsCall}
use Rattle.line_law.specs.Links.{way_of, pair_no}
use Rattle.line_law.specs.States.{LineState, box_at, pair_at}
use Rattle.line_law.specs.Decisions.{Told, Decision, OnBell, OnBlock, OnPlainLine, on_pair}
use Rattle.line_law.specs.Bells.{ring, hear, await_bell}
use Rattle.line_law.specs.Instruments.{turn, await_block}
use Rattle.line_law.specs.Levers.{pull, put, lever_link}
use Rattle.line_law.specs.Trains.{bring, pass, overrun}
use Rattle.line_law.specs.Arrivals.{await_train, berth, berth_part, clear_portion}
use Rattle.line_law.specs.Controls.{wind, release}

-- where a call of a box with this plan is decided, and what it does there
abbrev pub decide : PlanFields → BoxFields → Act → BoxState → Decision
decide plan box_plan (Ring side code) here = OnBell (ring here side code)
decide plan box_plan (Hear side) here = OnBell (hear here)
decide plan box_plan (AwaitBell side code) here = OnBell (await_bell here code)
decide plan box_plan (Turn way position) here = turn (berth_of box_plan way) here way position
decide plan box_plan (AwaitBlock way position) here = OnBlock (await_block here position)
decide plan box_plan (Pull lever) here = pull box_plan here lever
decide plan box_plan (Put lever) here = put box_plan here lever
decide plan box_plan (Bring train) here = bring here train (train_at plan.trains train).place
decide plan box_plan (Pass lever) here = pass box_plan here lever
decide plan box_plan (Overrun lever) here = overrun box_plan here lever
decide plan box_plan (AwaitTrain way) here = OnPlainLine (await_train here way)
decide plan box_plan (Berth way) here = berth (berth_of box_plan way) here way
decide plan box_plan (BerthPart way) here = berth_part (berth_of box_plan way) here way
decide plan box_plan (ClearPortion way) here = clear_portion here way
decide plan box_plan (Wind way) here = wind plan.delay here way
decide plan box_plan (Release way) here = release here way

-- The line on which a call may be decided: what a box hears from a side was rung the other way. A call that is always
-- decided in the box alone has some line all the same.
abbrev pub link_of : BoxFields → Act → Link
link_of box_plan (Ring side code) = Out side
link_of box_plan (Hear side) = In (opposite side)
link_of box_plan (AwaitBell side code) = In (opposite side)
link_of box_plan (Turn way position) = In way
link_of box_plan (AwaitBlock way position) = Out way
link_of box_plan (Pull lever) = lever_link box_plan lever
link_of box_plan (Put lever) = In Down
link_of box_plan (Bring train) = In Down
link_of box_plan (Pass lever) = lever_link box_plan lever
link_of box_plan (Overrun lever) = lever_link box_plan lever
link_of box_plan (AwaitTrain way) = In way
link_of box_plan (Berth way) = In way
link_of box_plan (BerthPart way) = In way
link_of box_plan (ClearPortion way) = In way
link_of box_plan (Wind way) = In way
link_of box_plan (Release way) = In way

-- the plan of box b
abbrev pub box_plan_of : PlanFields → ℕ → BoxFields
box_plan_of plan b = box_plan_at plan.boxes b

-- the pair of neighbours that a call of box b reaches
abbrev pub pair_of : PlanFields → ℕ → Call → ℕ
pair_of plan b call = pair_no b (link_of (box_plan_of plan b) call.act)

-- a call's moment becomes the last moment of its box, whatever the reply
abbrev pub at_moment : BoxState → ℕ → BoxState
at_moment here moment = record here { moment = moment }

-- one call, in the state of its box and of the pair that it reaches
abbrev pub step_at : PlanFields → BoxFields → Call → BoxState → PairState → Told PairState
step_at plan box_plan call here pair =
    on_pair (way_of (link_of box_plan call.act)) (decide plan box_plan call.act (at_moment here call.moment)) pair

-- the reply of a call, and the line after it
pub record Done : Type 0 where
  pub reply : Reply
  pub after : LineState

-- box b and pair p as a call leaves them, in their line
abbrev pub done_at : LineState → ℕ → ℕ → Told PairState → Done
done_at state b p told =
    record {
      reply = told.reply;
      after = record { boxes = slice_set state.boxes b told.here; pairs = slice_set state.pairs p told.word };
    }

-- the law: one call of box b, where the plan knows it and its moment isn't below the box's last; all other boxes and
-- pairs stay
unfoldable pub step : PlanFields → LineState → ℕ → Call → Done
step plan state b call =
    done_at state b (pair_of plan b call)
    (step_at plan (box_plan_of plan b) call (box_at state b) (pair_at state (pair_of plan b call)))

-- a call of box b that the law decides here: the plan knows it, and its moment isn't below the box's last
pub record MayCall (plan : PlanFields) (state : LineState) (b : ℕ) (call : Call) : Type 0 where
  pub known : KnowsCall plan b call
  pub later : (box_at state b).moment ≤ call.moment
