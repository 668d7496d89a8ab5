use Rattle.train_register.specs.Registers.{register_text}
use Rattle.line_runs.proofs.Printed.{each_half, in_order}
use Rattle.line_runs.proofs.printing.+registers.Goals as goal

pub returns : goal.returns
returns g t c =
    in_order _ _ _ _ _ _ c.in_order.ensures c.join-front.ensures.first c.join-front.ensures.second
    (each_half (λ register. register_text c.args.plan.now register.box_no register.entries) c.args.registers.now
    c.split_at.result.0.now c.split_at.result.1.now c.split_at.ensures.by_index.0)
