use Rattle.look_records.proofs.Plain.{look_plain}
use Rattle.look_records.proofs.changes.look_text.Goals as goal

pub text_of-requires : goal.text_of-requires
text_of-requires c = rw c.in_ok-value.ensures (look_plain c.args.plan.now c.args.box_no c.args.things.now)
