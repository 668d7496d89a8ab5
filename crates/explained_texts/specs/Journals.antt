-- A plan and a legal journal of its line, by the names of their texts.
use Rattle.std.specs.Prelude.{ℕ, List, ◌++◌, codes, decimal}
use Rattle.line_plan.specs.Plans.{PlanFields}
use Rattle.line_law.specs.declared.call.Entry.{Entry}
use Rattle.line_law.specs.History.{IsLegal}
use Rattle.line_report.specs.Reading.{journal_of}
use Rattle.text_fetch.specs.FromTexts.{Held, IsGiven, plan_told, text_told}

-- The plan is the one that the shelf tells under its name, the entries are the journal that it tells under the other,
-- and this journal is legal.
pub record IsJournalOf (held : Held) (plan_name journal_name : List ℕ) (plan : PlanFields) (es : List Entry)
    : Type 0 where
  pub plan_is : IsGiven plan (plan_told held plan_name)
  pub journal_is : IsGiven es (text_told 2 (journal_of plan) (held journal_name))
  pub legal : IsLegal plan es

-- what is told of a journal in which entry k is the first whose reply isn't the law's
abbrev pub illegal_told : ℕ → List ℕ
illegal_told k = codes "entry " ++ decimal k ++ codes " isn't legal; `box_main judge` tells what the law says there"
