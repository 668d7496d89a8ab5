use Rattle.std.proofs.Common.{sym}
use Rattle.line_plan.specs.Plans.{IsPlan}
use Rattle.line_law.proofs.Lines.{berth_place}
use Rattle.line_law.proofs.plain.Plain.held.Goals as goal

pub in_berth-requires-clause-place : goal.in_berth-requires-clause-place
in_berth-requires-clause-place c =
    let is : IsPlan c.args.plan.now = c.meets_conditions.ensures in
    rw c.advance.ensures
    (berth_place _ _ _ c.in-Some.berth.now is c.requires.line c.requires.section (sym c.in-Some.ensures))
