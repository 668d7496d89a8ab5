-- The lever frame of a box by itself, from a text of its levers and rows.
use Rattle.std.specs.Prelude.{◌≡◌, ℕ, List, [], ◌++◌, option_map}
use Rattle.line_plan.specs.Plans.{PlanFields, box_at}
use Rattle.plan_draft.specs.Reading.{plan_of}
use Rattle.text_fetch.specs.FromTexts.{Held, IsGiven, text_told}
use Rattle.explained_texts.specs.declared.frames.TheConstants.{BEHIND, BEFORE}

-- the plan in which these lines are those of the second box, `Frame`, of a line of two boxes without anything else
unfoldable pub framed : List ℕ → List ℕ
framed lines = BEFORE.now ++ lines ++ BEHIND.now

-- The frame of the text of this name: the lines of the text are the box's, as a plan has them, and there is no place
-- among them; so they are lines of levers and rows alone.
pub record IsFrameAlone (held : Held) (name : List ℕ) (plan : PlanFields) : Type 0 where
  pub plan_is : IsGiven plan (text_told 1 plan_of (option_map framed (held name)))
  pub no_place : (box_at plan.boxes 1).places ≡ []
