-- Which calls a plan knows.
use Rattle.std.specs.Prelude.{ℕ, Bool, ◌&&◌, ◌==◌, nat_lt, nat_le, length, is_some, IsTrue, if◌then◌else◌}
use Rattle.block_words.specs.declared.Way.{Way}
use Rattle.line_plan.specs.Frames.{berth_of, lever_of, signal_of}
use Rattle.line_plan.specs.Plans.{PlanFields, box_at, is_train, train_at}
use Rattle.line_plan.specs.Ways.{comes_in, has_neighbour, leaves}
use Rattle.line_law.specs.declared.call.Act.{Act}
use Rattle.line_law.specs.declared.call.Act.TheVariants.{Ring, Hear, AwaitBell, Turn, AwaitBlock, Pull, Put, Bring}
use Rattle.line_law.specs.declared.call.Act.TheVariants.{Pass, Overrun, AwaitTrain, Berth, BerthPart, ClearPortion}
use Rattle.line_law.specs.declared.call.Act.TheVariants.{Wind, Release}
use Rattle.line_law.specs.declared.call.Call.{Call}

-- how many moments a day has: minutes in version 1, seconds in version 2
abbrev pub moments_of : ℕ → ℕ
moments_of version = if version == 1 then 1440 else 86400

-- box b has a neighbour on that side
abbrev pub knows_side : PlanFields → ℕ → Way → Bool
knows_side plan b side = has_neighbour (length plan.boxes) b side

-- a number of the plan's code table
abbrev pub is_code_no : PlanFields → ℕ → Bool
is_code_no plan code = nat_le 1 code && nat_le code (length plan.codes)

-- the line of that way comes into box b from a neighbour, and has a berth there
abbrev pub knows_berth : PlanFields → ℕ → Way → Bool
knows_berth plan b way = comes_in (length plan.boxes) b way && is_some (berth_of (box_at plan.boxes b) way)

-- the line of that way leaves box b to a neighbour
abbrev pub knows_outgoing : PlanFields → ℕ → Way → Bool
knows_outgoing plan b way = leaves (length plan.boxes) b way

-- the frame of box b has the lever
abbrev pub knows_lever : PlanFields → ℕ → ℕ → Bool
knows_lever plan b lever = is_some (lever_of (box_at plan.boxes b) lever)

-- the frame of box b has the lever, and it works a signal or starter
abbrev pub knows_arm : PlanFields → ℕ → ℕ → Bool
knows_arm plan b lever = knows_lever plan b lever && is_some (signal_of (box_at plan.boxes b) lever)

-- a train of the plan that is brought at box b
abbrev pub knows_train : PlanFields → ℕ → ℕ → Bool
knows_train plan b train = is_train plan.trains train && (train_at plan.trains train).box_no == b

-- the conditions of a call of box b, by what it does
abbrev pub knows_act : PlanFields → ℕ → Act → Bool
knows_act plan b (Ring side code) = knows_side plan b side && is_code_no plan code
knows_act plan b (Hear side) = knows_side plan b side
knows_act plan b (AwaitBell side code) = knows_side plan b side && is_code_no plan code
knows_act plan b (Turn way position) = knows_berth plan b way
knows_act plan b (AwaitBlock way position) = knows_outgoing plan b way
knows_act plan b (Pull lever) = knows_lever plan b lever
knows_act plan b (Put lever) = knows_lever plan b lever
knows_act plan b (Bring train) = knows_train plan b train
knows_act plan b (Pass lever) = knows_arm plan b lever
knows_act plan b (Overrun lever) = knows_arm plan b lever
knows_act plan b (AwaitTrain way) = knows_berth plan b way
knows_act plan b (Berth way) = knows_berth plan b way
knows_act plan b (BerthPart way) = knows_berth plan b way
knows_act plan b (ClearPortion way) = knows_berth plan b way
knows_act plan b (Wind way) = knows_berth plan b way
knows_act plan b (Release way) = knows_berth plan b way

-- the plan knows a call of a box of the line where its conditions hold and its moment is one of a day
unfoldable pub knows_call : PlanFields → ℕ → Call → Bool
knows_call plan b call =
    nat_lt b (length plan.boxes) && nat_lt call.moment (moments_of plan.version) && knows_act plan b call.act

-- the plan knows the call
abbrev pub KnowsCall : PlanFields → ℕ → Call → Type 0
KnowsCall plan b call = IsTrue (knows_call plan b call)
