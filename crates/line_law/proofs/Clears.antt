-- What a berth's plan says of the state of its box.
use Rattle.std.proofs.Common.{◌≡◌, ℕ, ◌≤◌, List, Option, Some, None, IfSome, length, arith}
use Rattle.block_words.specs.declared.Way.{Way}
use Rattle.line_plan.specs.Frames.{BoxFields, berth_of}
use Rattle.line_plan.specs.declared.berth.Berth.{Berth}
use Rattle.line_plan.specs.declared.plan.TrainPlan.{TrainPlan}
use Rattle.line_law.specs.declared.state.BoxState.{BoxState}
use Rattle.line_law.specs.declared.state.Control.{Control}
use Rattle.line_law.specs.declared.state.Control.TheVariants.{Absolute, Permissive}
use Rattle.line_law.specs.Lines.{FitsLine, HasRoomOut, IsBoxOf, IsControlOf}
use Rattle.line_law.specs.Sound.{BerthFits, IsSound}

room_by : (n : Option ℕ) (control : Control) → IfSome n (λ n. n ≤ 3) → FitsLine n control → HasRoomOut control
room_by None (Absolute state) few fits = tt
room_by None (Permissive out) few fits = absurd fits
room_by (Some n) (Absolute state) few fits = absurd fits
room_by (Some n) (Permissive out) few fits = omega (arith, few, fits)

-- where a line's control fits its berth, a permissive line has room for one train more to be out
pub room_out : (levers places : ℕ) (berth : Berth) (control : Control) → BerthFits levers places berth
    → IsControlOf (Some berth) control → HasRoomOut control
room_out levers places berth control fits is = room_by berth.permissive control fits.few is

-- a berth's places and levers are of the box's state
pub berth_here : (trains : List TrainPlan) (box_plan : BoxFields) (here : BoxState) (way : Way) (berth : Berth)
    → IsSound box_plan → IsBoxOf trains box_plan here → berth_of box_plan way ≡ Some berth
    → BerthFits (length here.ends) (length here.places) berth
berth_here trains box_plan here way berth sound is e = rw (is.frame.ends, is.frame.places) (sound.berth way berth e)
