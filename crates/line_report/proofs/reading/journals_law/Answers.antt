use Rattle.line_report.proofs.JournalTexts.{every_journal, spelled_journal}
use Rattle.line_report.proofs.reading.journals_law.Goals as goal

pub returns-clause-read : goal.returns-clause-read
returns-clause-read c = every_journal

pub returns-clause-spelled : goal.returns-clause-spelled
returns-clause-spelled c = spelled_journal
