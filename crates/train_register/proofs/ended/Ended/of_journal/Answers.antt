use Rattle.std.proofs.Common.{rules}
use Rattle.train_register.proofs.Parts.{filled_printable}
use Rattle.train_register.proofs.ended.Ended.of_journal.Goals as goal

pub returns-clause-printable : goal.returns-clause-printable
returns-clause-printable c =
    λ spelled. filled_printable c.args.plan.now c.args.journal.now.entries c.from_vec.result (search rules)
    (search rules) spelled
