use Rattle.std.proofs.Common.{arith}
use Rattle.rehearsal_report.proofs.Accounts.{scripts_there, texts_there}
use Rattle.rehearsal_report.proofs.stop_sentences.say_chance.Goals as goal

pub bounds-account-at : goal.bounds-account-at
bounds-account-at c =
    let many =
    texts_there c.args.account.now.plan.now c.args.account.now.scripts.now c.args.account.now.texts.now
    c.args.account.now.rehearsal.now c.requires.account in
    omega (arith, many, c.requires.giver)

pub bounds-account-at-2 : goal.bounds-account-at-2
bounds-account-at-2 c =
    let many =
    scripts_there c.args.account.now.plan.now c.args.account.now.scripts.now c.args.account.now.texts.now
    c.args.account.now.rehearsal.now c.requires.account in
    omega (arith, many, c.requires.giver)

pub index-made-requires : goal.index-made-requires
index-made-requires c =
    let many =
    scripts_there c.args.account.now.plan.now c.args.account.now.scripts.now c.args.account.now.texts.now
    c.args.account.now.rehearsal.now c.requires.account in
    omega
    (arith, many, c.requires.giver, c.requires.account.way.counts, c.args.account.now.rehearsal.now.made.ok.0)
