-- The entries of a journal as rows of commas.
use Rattle.std.specs.Prelude.{◌≡◌, ℕ, ◌+◌, Bool, true, false, List, [], ◌∷◌, ◌++◌}
use Rattle.csv.specs.Writing.{default_writer, row_text}
use Rattle.line_plan.specs.Plans.{PlanFields}
use Rattle.line_law.specs.declared.call.Entry.{Entry}
use Rattle.entry_records.specs.Fields.{EntryFields}
use Rattle.entry_records.specs.Rows.{columns, entry_row}
use Rattle.journal_records.specs.Entries.{AreFieldsOf}
use Rattle.journal_records.specs.Objects.{AreJsonLines}

-- behind a text comes the row of entry n of a journal
pub record PutsRow (plan : PlanFields) (n : ℕ) (e : Entry) (old new : List ℕ) : Type 0 where
  pub fields : EntryFields
  pub are : AreFieldsOf plan n e fields
  pub behind : new ≡ old ++ row_text default_writer (entry_row fields)

-- behind a text come the rows of entries that follow one another, the first with this number
abbrev pub PutsRows : PlanFields → ℕ → List Entry → List ℕ → List ℕ → Type 0
PutsRows plan n [] old new = new ≡ old
PutsRows plan n (e ∷ es) old new =
    (middle : List ℕ) × PutsRow plan n e old middle × PutsRows plan (n + 1) es middle new

-- the names of the columns, and below them a journal's entries, numbered from 1
abbrev pub IsCsvOf : PlanFields → List Entry → List ℕ → Type 0
IsCsvOf plan es text = PutsRows plan 1 es (row_text default_writer columns) text

-- a journal as records for other programs: as rows of commas, or else as JSON
abbrev pub AreRecords : Bool → PlanFields → List Entry → List ℕ → Type 0
AreRecords true plan es text = IsCsvOf plan es text
AreRecords false plan es text = AreJsonLines plan es text
