use Rattle.std.proofs.Common.{◌+◌}
use Rattle.script_text.specs.Scripts.{most_script_bytes, script_of}
use Rattle.script_text.proofs.ScriptTexts.{script_of-take}
use Rattle.text_fetch.specs.FromTexts.{text_told}
use Rattle.text_fetch.proofs.Fetched.{fetched_given, fetched_refused}
use Rattle.explained_texts.proofs.Stopped.{refusal_stops}
use Rattle.explained_texts.proofs.reading.read_script_text.Goals as goal

pub returns-in-Ok-clause-told : goal.returns-in-Ok-clause-told
returns-in-Ok-clause-told c held told =
    let plan = c.args.plan.now in
    fetched_given (c.args.box_no + 2) most_script_bytes (script_of plan c.args.box_no) held c.args.bytes.now
    c.in-Ok.script (script_of-take plan c.args.box_no) told c.in-Ok.ensures.exact

pub returns-in-Err-Refused-clause-told : goal.returns-in-Err-Refused-clause-told
returns-in-Err-Refused-clause-told c held told =
    let plan = c.args.plan.now in
    let n = c.args.box_no + 2 in
    refusal_stops n c.in-Err-Refused.line c.in-Err-Refused.cause c.refused.result
    (text_told n (script_of plan c.args.box_no) held) c.refused.ensures.refusal
    (fetched_refused n most_script_bytes (script_of plan c.args.box_no) held c.args.bytes.now
    (record { line = c.in-Err-Refused.line; cause = c.in-Err-Refused.cause })
    (script_of-take plan c.args.box_no) told (rw c.in-Err-Refused.field-0-is at c.in-Err-Refused.ensures.exact))
