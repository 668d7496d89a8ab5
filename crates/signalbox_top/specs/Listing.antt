-- A journal is printed for other programs.
use Rattle.std.specs.Prelude.{ℕ, Bool, List}
use Rattle.line_plan.specs.Plans.{PlanFields}
use Rattle.line_law.specs.declared.call.Entry.{Entry}
use Rattle.text_fetch.specs.FromTexts.{Held}
use Rattle.explained_texts.specs.Journals.{IsJournalOf}
use Rattle.journal_records.specs.Rows.{AreRecords}

-- What comes of `json`: of the legal journal that the shelf tells under that name, for the plan of the other, a record
-- for each entry, as CSV or as JSON.
pub record IsListOf (held : Held) (csv : Bool) (plan_name journal_name text : List ℕ) : Type 0 where
  pub plan : PlanFields
  pub entries : List Entry
  pub journal : IsJournalOf held plan_name journal_name plan entries
  pub records : AreRecords csv plan entries text
