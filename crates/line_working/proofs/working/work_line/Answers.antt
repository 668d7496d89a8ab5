use Rattle.line_working.proofs.working.work_line.Goals as goal

pub work_men-requires-clause-ready : goal.work_men-requires-clause-ready
work_men-requires-clause-ready g c κs within = record { count = c.requires.count; each = c.requires.ready }
