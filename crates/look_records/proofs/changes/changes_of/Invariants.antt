use Rattle.std.proofs.Common.{◌++◌, List, drop}
use Rattle.look_records.specs.declared.thing.BoxThing.{BoxThing}
use Rattle.look_records.specs.Changes.{AreChanges}
use Rattle.look_records.proofs.changes.changes_of.Given as goal

abbrev pub invariant-loop-at : goal.invariant-loop-at
invariant-loop-at l =
    (rest : List BoxThing) → AreChanges l.before l.at (drop l.at l.after) rest
    → AreChanges l.before 0 l.after (l.changes.items ++ rest)
