-- A line has few boxes.
use Rattle.std.proofs.Common.{ℕ, ◌≤◌, ◌==◌, Bool, true, false, cond, length, arith}
use Rattle.line_plan.specs.Plans.{IsPlan, PlanFields}

most : (first : Bool) (n : ℕ) → n ≤ cond first 32 64 → n ≤ 64
most true n h = omega (arith, h)
most false n h = h

pub few_boxes : (plan : PlanFields) → IsPlan plan → length plan.boxes ≤ 64
few_boxes plan is = most (plan.version == 1) (length plan.boxes) is.most
