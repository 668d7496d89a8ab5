use Rattle.std.proofs.Common.{arith}
use Rattle.line_maker.proofs.CallsKnown.{made_scripts_work}
use Rattle.line_maker.proofs.making.make_line.Goals as goal

pub returns-in-Ok-clause-known : goal.returns-in-Ok-clause-known
returns-in-Ok-clause-known c =
    made_scripts_work c.args.n c.in_ok-plan.plan c.in-Ok.scripts.items (omega arith) c.in_ok-plan.ensures.plan
    c.in-Ok.ensures
