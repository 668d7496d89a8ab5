use Rattle.std.proofs.Common.{ℕ, ◌+◌, ◌++◌, List, drop}
use Rattle.entry_records.specs.Fields.{EntryFields}
use Rattle.journal_records.specs.Told.{AreTold}
use Rattle.journal_records.proofs.told.told_of.Given as goal

abbrev pub invariant-loop-at : goal.invariant-loop-at
invariant-loop-at l =
    (rest : List EntryFields) → AreTold l.plan (l.at + 1) (drop l.at l.entries) rest
    → AreTold l.plan 1 l.entries (l.told.items ++ rest)
