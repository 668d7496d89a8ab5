use Rattle.signalbox_top.proofs.Reported.{journal_spelled}
use Rattle.signalbox_top.proofs.rehearsing.text_of.Goals as goal

pub print_journal-requires : goal.print_journal-requires
print_journal-requires c =
    journal_spelled c.args.run.now.plan c.args.run.now.scripts.items c.args.rehearsal.now.journal.entries
    c.meets_conditions.ensures c.requires.scripts c.requires.legal c.requires.begins
