use Rattle.std.proofs.Common.{arith}
use Rattle.rehearsal_report.proofs.Accounts.{texts_there}
use Rattle.rehearsal_report.proofs.stop_sentences.say_giver.Goals as goal

pub say_change-requires : goal.say_change-requires
say_change-requires c =
    let many =
    texts_there c.args.account.now.plan.now c.args.account.now.scripts.now c.args.account.now.texts.now
    c.args.account.now.rehearsal.now c.requires.account in
    omega (arith, many, c.in-Some.ensures)
