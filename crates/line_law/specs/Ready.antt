-- What one call of a box needs of its state and of the pair that it reaches.
use Rattle.std.specs.Prelude.{◌≡◌, ◌+◌, ◌<◌, ◌^◌, IsTrue, length}
use Rattle.block_words.specs.declared.Way.{Way}
use Rattle.locking_table.specs.Places.{IsLever}
use Rattle.line_plan.specs.Frames.{BoxFields, frame_size}
use Rattle.line_plan.specs.Plans.{PlanFields, is_train, train_at}
use Rattle.line_law.specs.declared.call.Act.{Act}
use Rattle.line_law.specs.declared.call.Act.TheVariants.{Pull, Put, Bring}
use Rattle.line_law.specs.declared.call.Call.{Call}
use Rattle.line_law.specs.declared.link.Link.TheVariants.{Out}
use Rattle.line_law.specs.declared.state.BoxState.{BoxState}
use Rattle.line_law.specs.declared.state.PairState.{PairState}
use Rattle.line_law.specs.Law.{link_of}
use Rattle.line_law.specs.Lines.{HasRoom, IsBoxOf}
use Rattle.line_law.specs.Sound.{IsSound}
use Rattle.line_law.specs.Ways.{of_way}

-- the frame has the lever that a call moves, and the plan the train that it brings, with its place in the box
abbrev pub FitsHere : PlanFields → BoxFields → Act → Type 0
FitsHere plan box_plan (Pull lever) = IsLever (frame_size box_plan.levers) lever
FitsHere plan box_plan (Put lever) = IsLever (frame_size box_plan.levers) lever
FitsHere plan box_plan (Bring train) =
    IsTrue (is_train plan.trains train) × ((train_at plan.trains train).place < length box_plan.places)
FitsHere plan box_plan act = Unit {0}

-- the box and the pair are of the plan, no count is as great as 2^32, and the section that a train may enter has room
-- or holds the train four before
pub record IsReady (plan : PlanFields) (box_plan : BoxFields) (call : Call) (here : BoxState) (pair : PairState)
    : Type 0 where
  pub sound : IsSound box_plan
  pub shape : IsBoxOf plan.trains box_plan here
  pub act : FitsHere plan box_plan call.act
  pub delay : call.moment + plan.delay < 2 ^ 32
  pub bells : (way : Way) → (of_way pair.bells way).count < 2 ^ 32
  pub blocks : (way : Way) → (of_way pair.blocks way).turns < 2 ^ 32
  pub sent : (way : Way) → of_way here.sent way < 2 ^ 32
  pub taken : (way : Way) → (of_way here.incoming way).taken < 2 ^ 32
  pub room : (way : Way) → link_of box_plan call.act ≡ Out way → HasRoom (of_way here.sent way) (of_way pair.lines way)
