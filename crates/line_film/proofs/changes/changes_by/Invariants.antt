use Rattle.std.proofs.Common.{◌++◌, List, drop}
use Rattle.line_film.specs.declared.changes.Change.{Change}
use Rattle.line_film.specs.Changes.{AreChanges}
use Rattle.line_film.proofs.changes.changes_by.Given as goal

abbrev pub invariant-loop-slot : goal.invariant-loop-slot
invariant-loop-slot l =
    (rest : List Change) → AreChanges l.slot (drop l.slot l.before) (drop l.slot l.after) rest
    → AreChanges 0 l.before l.after (l.changes.items ++ rest)
