-- Which texts spell a plan: a relation on whole texts.
use Rattle.std.specs.Prelude.{◌≡◌, ℕ, ◌≤◌, true, List, [], ◌∷◌, ◌++◌, length, map, drop, codes}
use Rattle.std.specs.List.{list_all}
use Rattle.rail_text.specs.Lines.{lines_of, words_of}
use Rattle.rail_text.specs.Kept.{is_formed, kept}
use Rattle.block_words.specs.declared.Way.{Way}
use Rattle.block_words.specs.declared.Way.TheVariants.{Up, Down}
use Rattle.line_plan.specs.Limits.{most_bytes}
use Rattle.line_plan.specs.Frames.{BoxFields, berth_of}
use Rattle.line_plan.specs.Plans.{PlanFields}
use Rattle.plan_text.specs.Printing.{berth_lines, clear_lines, permissive_lines, front_lines, back_lines, head_lines}
use Rattle.plan_text.specs.Printing.{class_line, train_line}

-- of the two ways, which stands first in a box's lines `berth`, in its lines `clear` and in its lines `permissive`
pub record FirstWays : Type 0 where
  pub berths : Way
  pub clears : Way
  pub permissives : Way

-- up first everywhere, as lines are printed
abbrev pub up_first : FirstWays
up_first = record { berths = Up; clears = Up; permissives = Up }

-- the lines of both ways, this way's first
abbrev pub both_ways : {A : Type 0} → Way → (Way → List A) → List A
both_ways Up lines = lines Up ++ lines Down
both_ways Down lines = lines Down ++ lines Up

-- the lines of a box's berths, where these ways stand first
abbrev pub way_lines_by : FirstWays → BoxFields → List (List (List ℕ))
way_lines_by first box_plan =
    both_ways first.berths (λ way. berth_lines box_plan.places way (berth_of box_plan way))
    ++ both_ways first.clears (λ way. clear_lines box_plan.places way (berth_of box_plan way))
    ++ both_ways first.permissives (λ way. permissive_lines way (berth_of box_plan way))

-- the lines of a box, where these ways stand first
abbrev pub box_lines_by : FirstWays → BoxFields → List (List (List ℕ))
box_lines_by first box_plan = front_lines box_plan ++ way_lines_by first box_plan ++ back_lines box_plan

-- the lines of boxes, each by its first ways
abbrev pub boxes_lines_by : List FirstWays → List BoxFields → List (List (List ℕ))
boxes_lines_by firsts [] = []
boxes_lines_by [] (box_plan ∷ boxes) = box_lines_by up_first box_plan ++ boxes_lines_by [] boxes
boxes_lines_by (first ∷ firsts) (box_plan ∷ boxes) = box_lines_by first box_plan ++ boxes_lines_by firsts boxes

-- the words of a plan's lines, where these ways stand first in the boxes
unfoldable pub plan_lines_by : List FirstWays → PlanFields → List (List (List ℕ))
plan_lines_by firsts plan =
    head_lines plan ++ map (class_line plan.codes) (drop 4 plan.classes) ++ boxes_lines_by firsts plan.boxes
    ++ map (train_line plan) plan.trains ++ (codes "end" ∷ []) ∷ []

-- The text of a plan: it keeps within its limit, each line has its form, and the lines that aren't skipped have the
-- words of the plan's lines, where in each box either way may stand first.
pub record Spells (bytes : List ℕ) (plan : PlanFields) : Type 0 where
  pub short : length bytes ≤ most_bytes
  pub formed : list_all is_formed (lines_of bytes) ≡ true
  pub firsts : List FirstWays
  pub lines : map words_of (kept (lines_of bytes)) ≡ plan_lines_by firsts plan
