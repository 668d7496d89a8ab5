-- Which lever frame a command is of: that of a box of a plan, or one by itself.
use Rattle.std.specs.Prelude.{◌≡◌, ℕ, Bool, true, false, List, Some, bytes_eq, codes}
use Rattle.std.specs.List.{position}
use Rattle.line_plan.specs.Plans.{PlanFields, names_of}
use Rattle.text_fetch.specs.FromTexts.{Held, IsGiven, plan_told}
use Rattle.explained_texts.specs.Frames.{IsFrameAlone}

-- the word that stands in the place of a plan's name, where a frame by itself is meant
unfoldable pub is_alone : List ℕ → Bool
is_alone name = bytes_eq name (codes "frame-only")

-- the frame of a text by itself is that of the second box of the plan in which it is read
abbrev pub IsAloneIn : Held → List ℕ → PlanFields → ℕ → Type 0
IsAloneIn held file plan box_no = IsFrameAlone held file plan × (box_no ≡ 1)

-- the plan is the one that the shelf tells under its name, the box the first of that name
abbrev pub IsBoxIn : Held → List ℕ → List ℕ → PlanFields → ℕ → Type 0
IsBoxIn held plan_name box_name plan box_no =
    IsGiven plan (plan_told held plan_name) × (position (bytes_eq box_name) (names_of plan.boxes) ≡ Some box_no)

-- the frame that is meant by two names, of which the first is that word or not
abbrev pub IsMeant : Bool → Held → List ℕ → List ℕ → PlanFields → ℕ → Type 0
IsMeant true held plan_name box_name plan box_no = IsAloneIn held box_name plan box_no
IsMeant false held plan_name box_name plan box_no = IsBoxIn held plan_name box_name plan box_no

-- the frame that is meant by two names: that of a box of a plan; or, where the first is `frame-only`, the one that the
-- text of the second name has by itself
abbrev pub IsFrameMeant : Held → List ℕ → List ℕ → PlanFields → ℕ → Type 0
IsFrameMeant held plan_name box_name plan box_no =
    IsMeant (is_alone plan_name) held plan_name box_name plan box_no
