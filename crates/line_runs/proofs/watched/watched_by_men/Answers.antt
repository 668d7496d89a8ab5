use Rattle.std.proofs.Common.{List, subst}
use Rattle.train_register.specs.Registers.{AreParts, RegisterFields}
use Rattle.line_runs.proofs.watched.watched_by_men.Goals as goal

pub returns-in-Ok-clause-shown : goal.returns-in-Ok-clause-shown
returns-in-Ok-clause-shown g c =
    let line = c.in-Ok.ensures.line in
    let journal = c.in-Ok.worked.journal.entries in
    c.in_ok-ended.ensures.shown journal line.journal.legal
    (subst (λ (registers : List RegisterFields). AreParts c.args.plan.now journal registers)
    c.in-Ok.ensures.kept line.printed.parts)
