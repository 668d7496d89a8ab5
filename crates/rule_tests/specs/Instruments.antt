-- What a seat knows that works the instrument of a section from the opening on.
use Rattle.std.specs.Prelude.{◌≡◌, ℕ, [], length, Some, None}
use Rattle.block_words.specs.declared.Position.TheVariants as shows
use Rattle.block_words.specs.declared.Way.TheVariants.{Down}
use Rattle.line_plan.specs.Frames.{berth_of, kind_of, signal_of}
use Rattle.line_plan.specs.Plans.{PlanFields}
use Rattle.line_plan.specs.declared.berth.Berth.{Berth}
use Rattle.line_plan.specs.declared.frame.Kind.TheVariants as kinds
use Rattle.line_law.specs.History.{state_of}
use Rattle.line_law.specs.Law.{box_plan_of}
use Rattle.line_law.specs.Levers.{starter_way}
use Rattle.line_law.specs.States.{box_at, opening_box}
use Rattle.instrument_rule.specs.declared.view.View.{View}
use Rattle.instrument_rule.specs.Views.{caller_of}
use Rattle.rule_tests.specs.Hands.{Knows}

-- the down line comes into box b, where it has a berth and is absolute
pub record IsAbsolute (plan : PlanFields) (b : ℕ) : Type 0 where
  pub berth : Berth
  pub there : berth_of (box_plan_of plan b) Down ≡ Some berth
  pub absolute : berth.permissive ≡ None

-- the lever of box b works its down starter, and the box has no locking table
pub record IsFreeStarter (plan : PlanFields) (b lever : ℕ) : Type 0 where
  pub rows : (box_plan_of plan b).rows ≡ []
  pub leads : starter_way (signal_of (box_plan_of plan b) lever) ≡ Some Down
  pub kind : kind_of (box_plan_of plan b) lever ≡ Some kinds.Signal

-- the box of the seat has done nothing
pub record Fresh (plan : PlanFields) (v : View) : Type 0 where
  pub knows : Knows plan v 0 0
  pub opens : box_at (state_of plan v.seen) (caller_of v.posts)
      ≡ opening_box (length plan.trains) (box_plan_of plan (caller_of v.posts))

-- the box of the seat has given Line Clear on the down line, by its first call
pub record Given (plan : PlanFields) (v : View) : Type 0 where
  pub knows : Knows plan v 0 1
  pub turned : (box_at (state_of plan v.seen) (caller_of v.posts)).incoming.down.turns ≡ 1
  pub given : (box_at (state_of plan v.seen) (caller_of v.posts)).incoming.down.position ≡ shows.LineClear
