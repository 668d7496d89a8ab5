-- The call that moves a lever may be made.
use Rattle.std.proofs.Common.{ℕ, ◌<◌, ◌≤◌, Bool, true, false, cond, IsTrue, length}
use Rattle.line_plan.specs.Plans.{PlanFields}
use Rattle.line_law.specs.declared.call.Act.TheVariants as acts
use Rattle.line_law.specs.Known.{knows_lever, moments_of}
use Rattle.line_law.specs.Law.{MayCall}
use Rattle.line_law.specs.LeverEnds.{is_pulled}
use Rattle.line_law.specs.States.{LineState, box_at}
use Rattle.box_view.specs.Moves.{move_of}
use Rattle.box_view.proofs.Levers.{pull_may, put_may}

-- each lever of a box may be asked for, no earlier than the box's last call
pub move_may : (plan : PlanFields) (state : LineState) (b moment lever : ℕ) → b < length plan.boxes
    → moment < moments_of plan.version → (box_at state b).moment ≤ moment → IsTrue (knows_lever plan b lever)
    → MayCall plan state b (record { moment = moment; act = move_of (box_at state b) lever })
move_may plan state b moment lever at day later knows = go (is_pulled (box_at state b).ends lever) where
  go : (t : Bool)
      → MayCall plan state b (record { moment = moment; act = cond t (acts.Put lever) (acts.Pull lever) })
  go true = put_may plan state b moment lever at day later knows
  go false = pull_may plan state b moment lever at day later knows
