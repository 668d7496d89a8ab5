-- What a watch prints is read as its journal.
use Rattle.std.proofs.Common.{◌≡◌, ◌≤◌, List, ◌++◌, length, ℕ, Ok, append_assoc, subst, sym}
use Rattle.line_law.specs.declared.call.Entry.{Entry}
use Rattle.line_report.specs.Journals.{journal_text}
use Rattle.line_report.specs.Reading.{journal_of, most_journal_bytes}
use Rattle.line_watch.specs.declared.sight.Sight.{Sight}
use Rattle.line_watch.specs.Boards.{board_text}
use Rattle.text_fetch.specs.Runs.{Run}
use Rattle.train_register.specs.Registers.{registers_text}
use Rattle.line_runs.specs.Outputs.{output_text, result_text}
use Rattle.line_runs.specs.Watched.{watch_text}
use Rattle.line_runs.specs.Worked.{IsJournalOf}

-- the journal is what the output begins with, and the board stands behind it
pub watch_read : (run : Run) (journal : List Entry) (rounds : List (List Sight)) → IsJournalOf run journal
    → length (watch_text run.plan journal rounds) ≤ most_journal_bytes run.plan.version
    → journal_of run.plan (watch_text run.plan journal rounds) ≡ Ok journal
unfolding output_text watch_text
watch_read run journal rounds is short =
    let behind : List ℕ = registers_text run.plan journal ++ result_text run.plan journal in
    let rest : List ℕ = behind ++ board_text run.plan rounds in
    let same = append_assoc (journal_text run.plan journal) behind (board_text run.plan rounds) in
    subst (λ (text : List ℕ). journal_of run.plan text ≡ Ok journal) (sym same)
    (is.read rest (subst (λ (text : List ℕ). length text ≤ most_journal_bytes run.plan.version) same short))
