-- The lever frame of a box is drawn.
use Rattle.std.specs.Prelude.{◌≡◌, ℕ, List, Some, bytes_eq}
use Rattle.std.specs.List.{position}
use Rattle.line_plan.specs.Plans.{PlanFields, box_at, names_of}
use Rattle.text_fetch.specs.FromTexts.{Held, IsGiven, plan_told}
use Rattle.mark_up.specs.Documents.{IsDocument}
use Rattle.frame_picture.specs.Pictures.{IsPicture}
use Rattle.frame_picture.specs.Scenes.{scene_of}

-- What comes of `frame`: the plan is the one that the shelf tells under its name, the box the first of that name; and
-- what is put is a document that draws each lever, bar and dog of its frame.
pub record IsFrameOf (held : Held) (plan_name box_name text : List ℕ) : Type 0 where
  pub plan : PlanFields
  pub box_no : ℕ
  pub plan_is : IsGiven plan (plan_told held plan_name)
  pub box_is : position (bytes_eq box_name) (names_of plan.boxes) ≡ Some box_no
  pub document : IsDocument text
  pub picture : IsPicture (box_at plan.boxes box_no) (scene_of (box_at plan.boxes box_no)) text
