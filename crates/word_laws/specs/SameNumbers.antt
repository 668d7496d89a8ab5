-- What the number of a word tells of a call on it.
use Rattle.std.specs.Prelude.{◌≡◌}
use Rattle.line_plan.specs.Frames.{BoxFields}
use Rattle.line_plan.specs.Plans.{PlanFields}
use Rattle.line_law.specs.declared.call.Act.{Act}
use Rattle.line_law.specs.declared.state.BoxState.{BoxState}
use Rattle.line_law.specs.declared.state.PairState.{PairState}
use Rattle.line_law.specs.Decisions.{Told, on_pair}
use Rattle.line_law.specs.Law.{decide, link_of}
use Rattle.line_law.specs.Links.{way_of}

-- two outcomes of a call have one reply and one box; the words after them may differ
pub record ToldAlike (Word : Type 0) (told other : Told Word) : Type 0 where
  pub reply : told.reply ≡ other.reply
  pub here : told.here ≡ other.here

-- what a call of a box tells, decided in this pair
abbrev pub told_in : PlanFields → BoxFields → Act → BoxState → PairState → Told PairState
told_in plan box_plan act here pair = on_pair (way_of (link_of box_plan act)) (decide plan box_plan act here) pair

-- a call of a box gets the same reply in two pairs, and leaves the same box
abbrev pub IsToldAlike : PlanFields → BoxFields → Act → BoxState → PairState → PairState → Type 0
IsToldAlike plan box_plan act here pair other =
    ToldAlike PairState (told_in plan box_plan act here pair) (told_in plan box_plan act here other)
