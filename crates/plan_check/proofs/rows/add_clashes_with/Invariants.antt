use Rattle.std.proofs.Common.{◌≡◌, ◌+◌, ◌++◌, drop}
use Rattle.plan_check.specs.Found.{clashes_with}
use Rattle.plan_check.proofs.rows.add_clashes_with.Given as goal

abbrev pub invariant-loop-place : goal.invariant-loop-place
invariant-loop-place l =
    l.found.items ++ clashes_with l.box_no l.number l.row (l.number + 1 + l.place) (drop l.place l.later)
    ≡ l.fn.found.items ++ clashes_with l.box_no l.number l.row (l.number + 1) l.later
