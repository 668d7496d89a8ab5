-- The neighbours of a box.
use Rattle.std.specs.Prelude.{ℕ, Bool, ◌&&◌, ◌==◌}
use Rattle.block_words.specs.declared.Way.{Way}
use Rattle.line_plan.specs.Plans.{PlanFields}
use Rattle.line_plan.specs.Sections.{next_box}
use Rattle.line_law.specs.Known.{knows_side}

-- the neighbour of a box on that side is this one
abbrev pub leads : PlanFields → ℕ → Way → ℕ → Bool
leads plan from side to = knows_side plan from side && next_box from side == to
