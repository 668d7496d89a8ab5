-- What is told of the entries of a journal.
use Rattle.std.specs.Prelude.{◌≡◌, ℕ, ◌+◌, List, [], ◌∷◌}
use Rattle.line_plan.specs.Plans.{PlanFields}
use Rattle.line_law.specs.declared.call.Entry.{Entry}
use Rattle.entry_records.specs.Fields.{EntryFields}
use Rattle.journal_records.specs.Entries.{AreFieldsOf}

-- what is told of each of these entries, of which the first has this number: its box, moment, call and reply, and a
-- sentence where it is refused
abbrev pub AreTold : PlanFields → ℕ → List Entry → List EntryFields → Type 0
AreTold plan n [] told = told ≡ []
AreTold plan n (e ∷ es) told =
    (first : EntryFields) × (rest : List EntryFields) × (told ≡ first ∷ rest) × AreFieldsOf plan n e first
    × AreTold plan (n + 1) es rest
