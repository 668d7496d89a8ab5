-- What `stress` prints: the made line, worked by its own scripts.
use Rattle.std.specs.Prelude.{ℕ, ◌≡◌, List, [], ◌∷◌, ◌++◌, Ok, length, codes, decimal}
use Rattle.line_plan.specs.Plans.{PlanFields}
use Rattle.plan_draft.specs.Reading.{plan_of}
use Rattle.line_law.specs.declared.call.Entry.{Entry}
use Rattle.line_maker.specs.MadeCalls.{made_scripts}
use Rattle.line_maker.specs.MadeTexts.{made_plan_text}
use Rattle.line_report.specs.Refusals.{refused_count}
use Rattle.line_report.specs.Sections.{sections_text}
use Rattle.text_fetch.specs.Runs.{AreScriptsOf, Run}
use Rattle.line_runs.specs.Worked.{IsJournalOf}

-- a plan with its scripts is the made line of n trains: its text spells the plan, and these are scripts of the line
pub record IsMade (n : ℕ) (run : Run) : Type 0 where
  pub spelled : plan_of (made_plan_text n) ≡ Ok run.plan
  pub made : run.scripts ≡ made_scripts n
  pub worked : AreScriptsOf run.plan run.scripts

-- a line with one number
abbrev pub count_line : List ℕ → ℕ → List ℕ
count_line word n = word ++ 32 ∷ decimal n ++ 10 ∷ []

-- how many trains were asked for, how many boxes and trains the plan has, how many calls were made, and how many of
-- them were refused
unfoldable pub counts_text : ℕ → PlanFields → ℕ → ℕ → List ℕ
counts_text n plan calls refused =
    count_line (codes "stress") n ++ count_line (codes "boxes") (length plan.boxes)
    ++ count_line (codes "trains") (length plan.trains)
    ++ count_line (codes "calls") calls ++ count_line (codes "refused") refused

-- these, and the most trains that each section held
unfoldable pub summary_text : ℕ → PlanFields → List Entry → List ℕ
summary_text n plan es = counts_text n plan (length es) (refused_count es) ++ sections_text plan es

-- the text of the made line of n trains spells a plan, and a text is the summary of a journal of that line, worked by
-- its own scripts
pub record IsSummaryOf (n : ℕ) (text : List ℕ) : Type 0 where
  pub plan : PlanFields
  pub spelled : plan_of (made_plan_text n) ≡ Ok plan
  pub journal : List Entry
  pub is : IsJournalOf (record { plan = plan; scripts = made_scripts n }) journal
  pub printed : text ≡ summary_text n plan journal
