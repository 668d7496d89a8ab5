use Rattle.std.proofs.Common.{◌∙◌, arith}
use Rattle.line_plan.specs.Plans.{IsPlan}
use Rattle.line_law.proofs.SerialLaws.{left_opens}
use Rattle.serial_working.proofs.SerialTurns.{scripts_few, scripts_are, calls_few, begins}
use Rattle.serial_working.proofs.serial.work_serially.Goals as goal

pub script_entries-entries-requires-clause-few : goal.script_entries-entries-requires-clause-few
script_entries-entries-requires-clause-few g c κs within = scripts_few c.args.plan.now c.args.scripts.now c.requires

pub script_entries-entries-requires-clause-left : goal.script_entries-entries-requires-clause-left
script_entries-entries-requires-clause-left g c κs within =
    rw c.in_ok-plain.ensures.opening
    (left_opens c.args.plan.now _ (scripts_are c.args.plan.now c.args.scripts.now c.requires))

pub script_entries-entries-requires-clause-count : goal.script_entries-entries-requires-clause-count
script_entries-entries-requires-clause-count g c κs within =
    let is : IsPlan c.args.plan.now = c.meets_conditions.ensures in
    let few = calls_few c.args.plan.now c.args.scripts.now is c.requires in
    rw c.in_ok-plain.ensures.opening (omega arith)

pub returns : goal.returns
returns g c =
    c.from_vec.ensures ∙ c.in_ok-entries.ensures
    ∙ rw c.in_ok-plain.ensures.opening (begins c.args.plan.now _)
