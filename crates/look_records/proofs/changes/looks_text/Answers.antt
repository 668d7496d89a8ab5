use Rattle.look_records.proofs.Plain.{looks_plain}
use Rattle.look_records.proofs.changes.looks_text.Goals as goal

pub text_of-requires : goal.text_of-requires
text_of-requires c = rw c.in_ok-value.ensures (looks_plain c.args.plan.now c.args.line.now.line)
