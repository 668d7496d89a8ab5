use Rattle.line_plan.specs.Limits.{most_bytes}
use Rattle.plan_draft.specs.Reading.{plan_of}
use Rattle.plan_text.proofs.SpelledPlans.{plan_of-take}
use Rattle.text_fetch.specs.FromTexts.{text_told}
use Rattle.text_fetch.proofs.Fetched.{fetched_given, fetched_refused}
use Rattle.explained_texts.proofs.Stopped.{refusal_stops}
use Rattle.explained_texts.proofs.reading.read_plan_text.Goals as goal

pub returns-in-Ok-clause-told : goal.returns-in-Ok-clause-told
returns-in-Ok-clause-told c held told =
    fetched_given 1 most_bytes plan_of held c.args.bytes.now c.in-Ok.plan plan_of-take told c.in-Ok.ensures.exact

pub returns-in-Err-Refused-clause-told : goal.returns-in-Err-Refused-clause-told
returns-in-Err-Refused-clause-told c held told =
    refusal_stops 1 c.in-Err-Refused.line c.in-Err-Refused.cause c.refused.result (text_told 1 plan_of held)
    c.refused.ensures.refusal
    (fetched_refused 1 most_bytes plan_of held c.args.bytes.now
    (record { line = c.in-Err-Refused.line; cause = c.in-Err-Refused.cause }) plan_of-take told
    (rw c.in-Err-Refused.field-0-is at c.in-Err-Refused.ensures.exact))
