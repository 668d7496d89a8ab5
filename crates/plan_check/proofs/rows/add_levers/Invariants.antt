use Rattle.std.proofs.Common.{◌≡◌, ◌++◌, drop}
use Rattle.std.specs.List.{flat_map}
use Rattle.plan_check.specs.Found.{lever_findings}
use Rattle.plan_check.proofs.rows.add_levers.Given as goal

abbrev pub invariant-loop-lever : goal.invariant-loop-lever
invariant-loop-lever l =
    l.found.items ++ flat_map (lever_findings l.box_no l.rows) (drop l.lever-index l.levers)
    ≡ l.fn.found.items ++ flat_map (lever_findings l.box_no l.rows) l.levers
