use Rattle.std.proofs.Common.{◌≡◌, ◌+◌, ◌++◌, drop}
use Rattle.plan_check.specs.Found.{clashes_from}
use Rattle.plan_check.proofs.rows.add_clashes.Given as goal

abbrev pub invariant-loop-place : goal.invariant-loop-place
invariant-loop-place l =
    l.found.items ++ clashes_from l.box_no (l.place + 1) (drop l.place l.rows)
    ≡ l.fn.found.items ++ clashes_from l.box_no 1 l.rows
