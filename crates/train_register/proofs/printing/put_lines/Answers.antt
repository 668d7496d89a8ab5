use Rattle.train_register.proofs.ToldLines.{more_lines}
use Rattle.train_register.proofs.printing.put_lines.Goals as goal

pub loop-place-preserved : goal.loop-place-preserved
loop-place-preserved c =
    more_lines c.args.plan.now c.args.entries.now c.loop-place.place _ _ _ _ c.loop-place-test.true
    c.loop-place.invariant c.in_ok-put_line.ensures
