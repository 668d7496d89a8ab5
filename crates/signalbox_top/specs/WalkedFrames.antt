-- The states of a box's lever frame are walked.
use Rattle.std.specs.Prelude.{◌≡◌, ℕ, List, [], ◌∷◌, Bool, true, false, Option, Some, None, Ok, map}
use Rattle.std.specs.Prelude.{if◌then◌else◌}
use Rattle.rail_text.specs.Words.{number_in}
use Rattle.line_plan.specs.Plans.{PlanFields, box_at}
use Rattle.line_plan.specs.declared.frame.Kind.{Kind}
use Rattle.line_plan.specs.declared.frame.Kind.TheVariants as kinds
use Rattle.line_plan.specs.declared.frame.Lever.{Lever}
use Rattle.text_fetch.specs.FromTexts.{Held}
use Rattle.frame_report.specs.declared.asked.StatesWanted.{StatesWanted}
use Rattle.frame_report.specs.States.{IsStatesText}
use Rattle.signalbox_words.specs.Commands.{WalkWanted}
use Rattle.signalbox_top.specs.Frames.{IsFrameMeant}

-- a lever that works something
abbrev pub is_working : Kind → Bool
is_working kinds.Spare = false
is_working other = true

-- the numbers of the levers that work something
abbrev pub working_numbers : List Lever → List ℕ
working_numbers [] = []
working_numbers (lever ∷ levers) =
    if is_working lever.kind then lever.number ∷ working_numbers levers else working_numbers levers

-- how many states may be kept: a million, where nothing is said
abbrev pub IsLimit : Option (List ℕ) → ℕ → Type 0
IsLimit None limit = limit ≡ 1000000
IsLimit (Some word) limit = number_in 1 4294967295 word ≡ Ok limit

-- words are the numbers of levers
abbrev pub AreLevers : List (List ℕ) → List ℕ → Type 0
AreLevers words levers = map (number_in 1 120) words ≡ map (λ lever. Ok lever) levers

-- what is asked of the states, by the words
pub record IsAsked (wanted : WalkWanted) (asked : StatesWanted) : Type 0 where
  pub limit : IsLimit wanted.limit asked.limit
  pub never : AreLevers wanted.never asked.never.items
  pub reach : AreLevers wanted.reach asked.reach.items

-- What comes of `states`: what is put is the report on a walk of the frame that is meant, of its levers that work
-- something, by its locking table.
pub record IsWalkedOf (held : Held) (wanted : WalkWanted) (text : List ℕ) : Type 0 where
  pub plan : PlanFields
  pub box_no : ℕ
  pub frame_is : IsFrameMeant held wanted.plan wanted.box_name plan box_no
  pub asked : StatesWanted
  pub asked_is : IsAsked wanted asked
  pub report : IsStatesText (box_at plan.boxes box_no).name (working_numbers (box_at plan.boxes box_no).levers)
      (box_at plan.boxes box_no).rows asked text
