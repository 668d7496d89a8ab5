-- The entries of a journal as JSON, one a line.
use Rattle.std.specs.Prelude.{◌≡◌, ℕ, ◌+◌, List, [], ◌∷◌, ◌++◌}
use Rattle.serde_json.specs.Data.{Data}
use Rattle.json_objects.specs.Texts.{IsTextOf}
use Rattle.line_plan.specs.Plans.{PlanFields}
use Rattle.line_law.specs.declared.call.Entry.{Entry}
use Rattle.entry_records.specs.Fields.{EntryFields}
use Rattle.entry_records.specs.Objects.{entry_data}
use Rattle.journal_records.specs.Entries.{AreFieldsOf}

-- the object of entry n
pub record IsEntryData (plan : PlanFields) (n : ℕ) (e : Entry) (d : Data) : Type 0 where
  pub fields : EntryFields
  pub are : AreFieldsOf plan n e fields
  pub is : d ≡ entry_data fields

-- the text of entry n as JSON
pub record IsEntryText (plan : PlanFields) (n : ℕ) (e : Entry) (text : List ℕ) : Type 0 where
  pub fields : EntryFields
  pub are : AreFieldsOf plan n e fields
  pub is : IsTextOf (entry_data fields) text

-- behind a text comes the line of entry n
pub record PutsEntry (plan : PlanFields) (n : ℕ) (e : Entry) (old new : List ℕ) : Type 0 where
  pub text : List ℕ
  pub is : IsEntryText plan n e text
  pub behind : new ≡ old ++ text ++ 10 ∷ []

-- behind a text come the lines of entries that follow one another, the first with this number
abbrev pub PutsEntries : PlanFields → ℕ → List Entry → List ℕ → List ℕ → Type 0
PutsEntries plan n [] old new = new ≡ old
PutsEntries plan n (e ∷ es) old new =
    (middle : List ℕ) × PutsEntry plan n e old middle × PutsEntries plan (n + 1) es middle new

-- a journal's entries, numbered from 1, a line each
abbrev pub AreJsonLines : PlanFields → List Entry → List ℕ → Type 0
AreJsonLines plan es text = PutsEntries plan 1 es [] text
