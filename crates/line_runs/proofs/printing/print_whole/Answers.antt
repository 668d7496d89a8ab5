use Rattle.line_runs.specs.Copying.{one_behind}
use Rattle.line_runs.proofs.Printed.{output_whole}
use Rattle.line_runs.proofs.printing.print_whole.Goals as goal

pub returns-in-Ok : goal.returns-in-Ok
returns-in-Ok g c =
    let plan = c.args.plan.now in
    let es = c.args.merged.now in
    rw (c.put_together.ensures.front, c.put_together.ensures.rest)
    (output_whole plan es c.requires.registers c.in-Ok.front.0 (one_behind c.in-Ok.behind.0 c.in-Ok.behind.1)
    c.args.registers c.in-Ok.front.1.0.items c.in-Ok.front.1.1.items c.requires.printed.parts c.requires.same
    c.in-Ok.ensures.lines c.in-Ok.ensures.counts)
