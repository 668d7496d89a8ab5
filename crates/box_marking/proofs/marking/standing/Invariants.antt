use Rattle.std.proofs.Common.{◌≡◌, ◌++◌, drop}
use Rattle.std.specs.Prelude.{filter}
use Rattle.box_marking.specs.Markings.{stands}
use Rattle.box_marking.proofs.marking.standing.Given as goal

abbrev pub invariant-loop-marking : goal.invariant-loop-marking
invariant-loop-marking l = l.markings.items ++ filter (stands l.only l.done) (drop l.marking-index l.found)
    ≡ filter (stands l.only l.done) l.found
