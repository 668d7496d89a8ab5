use Rattle.std.proofs.Common.{sym}
use Rattle.std.proofs.lemmas.Option.{slice_get_past}
use Rattle.plan_draft.proofs.Brought.{brought_none}
use Rattle.plan_draft.proofs.kinds.brought_at.Goals as goal

pub returns-in-None : goal.returns-in-None
returns-in-None c =
    sym
    (brought_none c.args.boxes.now c.args.box_no c.args.word.now
    (slice_get_past c.args.boxes.now c.args.box_no c.in-None.ensures.lookup.3))
