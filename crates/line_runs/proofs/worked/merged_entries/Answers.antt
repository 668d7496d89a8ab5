use Rattle.line_plan.specs.Plans.{IsPlan}
use Rattle.line_runs.proofs.ScriptsWorked.{line_merged}
use Rattle.line_runs.proofs.worked.merged_entries.Goals as goal

pub returns : goal.returns
returns c =
    let is : IsPlan c.args.plan.now = c.meets_conditions.ensures in
    line_merged (record { plan = c.args.plan.now; scripts = c.args.scripts.now }) c.args.ended.now.registers
    c.in_ok-merged.merged is c.requires.worked c.in_ok-merged.ensures.legal
    c.in_ok-merged.ensures.parts c.in_ok-merged.ensures.in_order c.in_ok-merged.ensures.count
