-- The trains of a plan at one of its boxes.
use Rattle.std.specs.Prelude.{ℕ, List, Bool}

-- the box, and which of the plan's trains were brought there: train t at t - 1
pub record TrainsHere : Type 0 where
  pub box_no : ℕ
  pub brought : List Bool
