use Rattle.std.proofs.Common.{◌≡◌, ◌++◌, drop}
use Rattle.look_records.specs.Things.{levers_at}
use Rattle.look_records.proofs.things.add_levers.Given as goal

abbrev pub invariant-loop-lever : goal.invariant-loop-lever
invariant-loop-lever l =
    l.things.items ++ levers_at l.box_plan l.here (drop l.lever-index l.box_plan.levers)
    ≡ l.fn.things.items ++ levers_at l.box_plan l.here l.box_plan.levers
