use Rattle.std.proofs.Common.{rules}
use Rattle.lever_frame.proofs.Plans.{opens, opens_of}
use Rattle.lever_frame.proofs.frame.LeverFrame.new.Goals as goal

pub invariant_of-result : goal.invariant_of-result
invariant_of-result c =
    opens c.args.plan.now c.in_ok-frame.frame c.in_ok-levers.levers.items c.in_ok-off.off.items (search rules)
    (search rules) (search rules)

pub returns-clause-plan : goal.returns-clause-plan
returns-clause-plan c =
    opens_of c.args.plan.now c.in_ok-frame.frame c.in_ok-levers.levers.items c.in_ok-off.off.items (search rules)
    (search rules)
