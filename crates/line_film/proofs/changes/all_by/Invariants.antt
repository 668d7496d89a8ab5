use Rattle.std.proofs.Common.{◌≡◌, ◌++◌, drop}
use Rattle.line_film.specs.Changes.{all_from}
use Rattle.line_film.proofs.changes.all_by.Given as goal

abbrev pub invariant-loop-slot : goal.invariant-loop-slot
invariant-loop-slot l = l.changes.items ++ all_from l.slot (drop l.slot l.things) ≡ all_from 0 l.things
