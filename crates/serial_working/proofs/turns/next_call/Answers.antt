use Rattle.serial_working.proofs.Turning.{next_is}
use Rattle.serial_working.proofs.turns.next_call.Goals as goal

pub returns : goal.returns
returns c =
    next_is c.args.scripts.now c.args.made.now c.args.box_no c.index-scripts-box_no.result c.as_slice.result.now _
    (record { counts = c.requires.counts; within = c.requires.box_no; calls = c.as_slice.ensures })
    c.call_behind.ensures
