use Rattle.box_session.proofs.Kept.{empty_here}
use Rattle.box_session.proofs.work.has_empty_script.Goals as goal

pub returns : goal.returns
returns c =
    empty_here c.args.scripts.now c.args.box_no c.index-scripts-box_no.result c.is_empty.result c.requires
    c.is_empty.ensures
