use Rattle.line_report.proofs.JournalTexts.{reading_refused}
use Rattle.line_report.proofs.reading.read_journal.Goals as goal

pub returns-clause-refused : goal.returns-clause-refused
returns-clause-refused c =
    reading_refused c.args.plan.now c.args.bytes.now c.journal_of.result c.journal_of.ensures.plan
    c.journal_of.ensures.exact
