-- The whole output of a run is read as its journal.
use Rattle.std.proofs.Common.{◌≡◌, ◌≤◌, List, ◌++◌, length, Ok}
use Rattle.line_law.specs.declared.call.Entry.{Entry}
use Rattle.line_report.specs.Reading.{journal_of, most_journal_bytes}
use Rattle.text_fetch.specs.Runs.{Run}
use Rattle.train_register.specs.Registers.{registers_text}
use Rattle.line_runs.specs.Outputs.{output_text, result_text}
use Rattle.line_runs.specs.Worked.{IsJournalOf}

-- the journal is what the whole output begins with
pub output_read : (run : Run) (journal : List Entry) → IsJournalOf run journal
    → length (output_text run.plan journal) ≤ most_journal_bytes run.plan.version
    → journal_of run.plan (output_text run.plan journal) ≡ Ok journal
unfolding output_text
output_read run journal is short =
    is.read (registers_text run.plan journal ++ result_text run.plan journal) short
