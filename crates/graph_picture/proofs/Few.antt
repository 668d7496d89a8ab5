-- A line has few boxes, and a box few places.
use Rattle.std.proofs.Common.{ℕ, ◌≤◌, ◌==◌, Bool, true, false, cond, length, arith}
use Rattle.std.proofs.lemmas.List.Elements.{All-from_get_or}
use Rattle.line_plan.specs.Frames.{BoxFields}
use Rattle.line_plan.specs.Plans.{IsPlan, PlanFields, no_box}
use Rattle.graph_picture.specs.Places.{AreFew}

most : (first : Bool) (n : ℕ) → n ≤ cond first 32 64 → n ≤ 64
most true n h = omega (arith, h)
most false n h = h

pub few_boxes : (plan : PlanFields) → IsPlan plan → AreFew plan.boxes
few_boxes plan is = record {
  boxes = most (plan.version == 1) (length plan.boxes) is.most;
  places = All-from_get_or (λ (box_plan : BoxFields). length box_plan.places ≤ 64) plan.boxes no_box
      (λ b within. (is.each b within).few_places);
}
