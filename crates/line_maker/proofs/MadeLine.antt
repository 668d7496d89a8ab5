-- The plan that the text of the made line spells.
use Rattle.std.proofs.Common.{ℕ, zero, suc, List, [], ◌∷◌, ◌++◌, Some, None, codes, decimal}
use Rattle.std.specs.Prelude.{if◌then◌else◌}
use Rattle.line_maker.specs.MadeTrains.{class_of, runs_down}
use Rattle.bell_codes.specs.Table.{opening_codes}
use Rattle.block_words.specs.declared.Way.TheVariants.{Up, Down}
use Rattle.locking_table.specs.declared.row.Row.{Row}
use Rattle.locking_table.specs.declared.row.RowKind.TheVariants.{LocksNormal}
use Rattle.line_plan.specs.declared.frame.Kind.TheVariants as kinds
use Rattle.line_plan.specs.declared.frame.Lever.{Lever}
use Rattle.line_plan.specs.declared.signal.To.{To}
use Rattle.line_plan.specs.declared.signal.To.TheVariants as ends
use Rattle.line_plan.specs.declared.signal.Signal.{Signal}
use Rattle.line_plan.specs.declared.berth.Berth.{Berth}
use Rattle.line_plan.specs.declared.plan.TrainPlan.{TrainPlan}
use Rattle.plan_draft.specs.declared.draft.Stage.{Stage}
use Rattle.plan_draft.specs.declared.draft.Stage.TheVariants as stages
use Rattle.line_plan.specs.Frames.{BoxFields}
use Rattle.line_plan.specs.Plans.{PlanFields, no_box}
use Rattle.plan_draft.specs.Drafts.{DraftFields, opening_classes}

abbrev spare : ℕ → Lever
spare n = record { number = n; kind = kinds.Spare }

abbrev stop : ℕ → Lever
stop n = record { number = n; kind = kinds.Signal }

abbrev points : ℕ → Lever
points n = record { number = n; kind = kinds.Points }

abbrev arm : ℕ → ℕ → To → Signal
arm lever from to = record { lever = lever; from = from; over = []; to = to }

abbrev berth_at : ℕ → ℕ → ℕ → Berth
berth_at place home clear = record { place = place; homes = home ∷ []; clearing = clear ∷ []; permissive = None }

abbrev locks_points : ℕ → Row
locks_points lever = record { subject = lever; kind = LocksNormal; object = 5; when = [] }

-- box Ash, the first: signal levers 2 to 4, points 5, and a berth for the up line
unfoldable pub ash : BoxFields
ash = record {
  name = codes "Ash";
  places = codes "DP" ∷ codes "UB" ∷ codes "UP" ∷ [];
  levers = spare 1 ∷ stop 2 ∷ stop 3 ∷ stop 4 ∷ points 5 ∷ [];
  signals = arm 3 1 (ends.Place 2) ∷ arm 4 2 ends.Away ∷ arm 2 0 (ends.Section Down) ∷ [];
  berth_up = Some (berth_at 1 3 2);
  berth_down = None;
  tracks = [];
  rows = locks_points 2 ∷ locks_points 3 ∷ [];
}

-- box Beech, the middle one: signal levers 1 to 4, points 5, and a berth for each line
unfoldable pub beech : BoxFields
beech = record {
  name = codes "Beech";
  places = codes "DB" ∷ codes "DP" ∷ codes "UB" ∷ codes "UP" ∷ [];
  levers = stop 1 ∷ stop 2 ∷ stop 3 ∷ stop 4 ∷ points 5 ∷ [];
  signals =
      arm 1 0 (ends.Place 1) ∷ arm 3 2 (ends.Place 3) ∷ arm 2 1 (ends.Section Down) ∷ arm 4 3 (ends.Section Up) ∷ [];
  berth_up = Some (berth_at 2 3 3);
  berth_down = Some (berth_at 0 1 1);
  tracks = record { lever = 5; places = 1 ∷ [] } ∷ [];
  rows = locks_points 1 ∷ locks_points 3 ∷ [];
}

-- box Cedar, the last: signal levers 1, 2 and 4, points 5, and a berth for the down line
unfoldable pub cedar : BoxFields
cedar = record {
  name = codes "Cedar";
  places = codes "DB" ∷ codes "DP" ∷ codes "UP" ∷ [];
  levers = stop 1 ∷ stop 2 ∷ spare 3 ∷ stop 4 ∷ points 5 ∷ [];
  signals = arm 1 0 (ends.Place 1) ∷ arm 2 1 ends.Away ∷ arm 4 2 (ends.Section Up) ∷ [];
  berth_up = None;
  berth_down = Some (berth_at 0 1 1);
  tracks = [];
  rows = locks_points 1 ∷ locks_points 4 ∷ [];
}

-- the plan of the made line with these boxes and trains
abbrev pub plan_with : List BoxFields → List TrainPlan → PlanFields
plan_with boxes trains =
    record {
      version = 1;
      delay = 2;
      looks = 1000000000;
      codes = opening_codes;
      classes = opening_classes;
      boxes =
          boxes;
      trains = trains;
    }

-- its draft, in a box or outside
abbrev pub draft_with : Stage → List BoxFields → BoxFields → List TrainPlan → DraftFields
draft_with stage boxes here trains = record { stage = stage; count = 3; plan = plan_with boxes trains; here = here }

-- ---- trains

-- the name of train i
abbrev pub name_of : ℕ → List ℕ
name_of i = codes "t" ++ decimal i

-- where a train is brought: at place 0 of box 0, or at place 2 of box 2
abbrev pub brought_at : ℕ → ℕ
brought_at i = if runs_down i then 0 else 2

-- train i with its name and class, and the box and place where it is brought
abbrev pub made_train : ℕ → TrainPlan
made_train i = record { name = name_of i; class_no = class_of i; box_no = brought_at i; place = brought_at i }

-- trains 1 to n
unfoldable pub made_trains : ℕ → List TrainPlan
made_trains zero = []
made_trains (suc n) = made_trains n ++ made_train (suc n) ∷ []

-- the three boxes of the made line
abbrev pub made_boxes : List BoxFields
made_boxes = ash ∷ beech ∷ cedar ∷ []

-- the draft when these trains are read
abbrev pub draft_at : List TrainPlan → DraftFields
draft_at [] = draft_with stages.Row (ash ∷ beech ∷ []) cedar []
draft_at (train ∷ trains) = draft_with stages.Train made_boxes no_box (train ∷ trains)

-- the plan of n trains
abbrev pub made_plan : ℕ → PlanFields
made_plan n = plan_with made_boxes (made_trains n)
