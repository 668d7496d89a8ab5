use Rattle.std.proofs.Common.{◌+◌}
use Rattle.line_report.specs.Reading.{journal_of, most_journal_bytes}
use Rattle.line_report.proofs.JournalTexts.{journal_of-take}
use Rattle.text_fetch.specs.FromTexts.{text_told}
use Rattle.text_fetch.proofs.Fetched.{fetched_given, fetched_refused}
use Rattle.explained_texts.proofs.Stopped.{refusal_stops}
use Rattle.explained_texts.proofs.journals.read_journal_text.Goals as goal

pub returns-in-Ok-clause-told : goal.returns-in-Ok-clause-told
returns-in-Ok-clause-told c held told =
    let plan = c.args.plan.now in
    fetched_given 2 (most_journal_bytes plan.version) (journal_of plan) held c.args.bytes.now
    c.in-Ok.journal.entries (journal_of-take plan) told c.in-Ok.ensures.exact

pub returns-in-Err-Refused-clause-told : goal.returns-in-Err-Refused-clause-told
returns-in-Err-Refused-clause-told c held told =
    let plan = c.args.plan.now in
    refusal_stops 2 c.in-Err-Refused.line c.in-Err-Refused.cause c.refused.result (text_told 2 (journal_of plan) held)
    c.refused.ensures.refusal
    (fetched_refused 2 (most_journal_bytes plan.version) (journal_of plan) held c.args.bytes.now
    (record { line = c.in-Err-Refused.line; cause = c.in-Err-Refused.cause }) (journal_of-take plan) told
    (rw c.in-Err-Refused.field-0-is at c.in-Err-Refused.ensures.exact))
