-- The plan as far as its text is read.
use Rattle.std.specs.Prelude.{ℕ, Bool, nat_le, ◌&&◌, List, [], ◌∷◌, ◌++◌, if◌then◌else◌, codes}
use Rattle.bell_codes.specs.Table.{opening_codes}
use Rattle.line_plan.specs.Frames.{BoxFields}
use Rattle.line_plan.specs.Plans.{PlanFields, no_box}
use Rattle.line_plan.specs.declared.plan.Class.{Class}
use Rattle.plan_draft.specs.declared.draft.Stage.{Stage}
use Rattle.plan_draft.specs.declared.draft.Stage.TheVariants as stages

-- the kind of the last line, how many boxes are announced, the fields so far with the boxes that are complete, and the
-- box whose lines are being read
pub record DraftFields : Type 0 where
  pub stage : Stage
  pub count : ℕ
  pub plan : PlanFields
  pub here : BoxFields

-- the kinds of lines in the order in which they stand
abbrev pub rank : Stage → ℕ
rank stages.Start = 0
rank stages.Plan = 1
rank stages.Boxes = 2
rank stages.Delay = 3
rank stages.Looks = 4
rank stages.Class = 5
rank stages.Box = 6
rank stages.Place = 7
rank stages.Lever = 8
rank stages.Signal = 9
rank stages.Starter = 10
rank stages.Berth = 11
rank stages.Clear = 12
rank stages.Permissive = 13
rank stages.Track = 14
rank stages.Row = 15
rank stages.Train = 16
rank stages.Ended = 17

-- the last line was one of a box
abbrev pub in_box : Stage → Bool
in_box stage = nat_le 6 (rank stage) && nat_le (rank stage) 15

-- a line of a box behind its first
abbrev pub behind_box : Stage → Bool
behind_box stage = nat_le 7 (rank stage) && nat_le (rank stage) 15

-- the first four classes of every plan
abbrev pub opening_classes : List Class
opening_classes =
    record { name = codes "express"; code = 2 } ∷ record { name = codes "ordinary"; code = 3 }
    ∷ record { name = codes "empty"; code = 4 } ∷ record { name = codes "light"; code = 5 } ∷ []

-- nothing is read yet
abbrev pub start : DraftFields
start = record {
  stage = stages.Start;
  count = 2;
  plan = record {
    version = 1;
    delay = 0;
    looks = 1;
    codes = opening_codes;
    classes = opening_classes;
    boxes = [];
    trains = [];
  };
  here = no_box;
}

-- complete boxes, and the one whose lines are being read
abbrev pub boxes_with : Stage → List BoxFields → BoxFields → List BoxFields
boxes_with stage boxes here = if in_box stage then boxes ++ here ∷ [] else boxes

-- the boxes that stand so far, the one whose lines are being read among them
abbrev pub all_boxes : DraftFields → List BoxFields
all_boxes draft = boxes_with draft.stage draft.plan.boxes draft.here
