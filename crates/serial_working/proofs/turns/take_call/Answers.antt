use Rattle.serial_working.proofs.Turning.{more_left, few_lent, takes}
use Rattle.serial_working.proofs.turns.take_call.Goals as goal

pub numbered_call-taken-requires-clause-more : goal.numbered_call-taken-requires-clause-more
numbered_call-taken-requires-clause-more c =
    more_left c.args.scripts.now c.args.made.now c.args.box_no c.index-scripts-box_no.result c.as_slice.result.now
    (record { counts = c.requires.counts; within = c.requires.box_no; calls = c.as_slice.ensures }) c.requires.left

pub numbered_call-taken-requires-clause-few : goal.numbered_call-taken-requires-clause-few
numbered_call-taken-requires-clause-few c =
    few_lent c.args.scripts.now c.args.made.now c.args.box_no c.index-scripts-box_no.result c.as_slice.result.now
    (record { counts = c.requires.counts; within = c.requires.box_no; calls = c.as_slice.ensures }) c.requires.few

pub returns-clause-call : goal.returns-clause-call
returns-clause-call c =
    takes c.args.scripts.now c.args.made.now c.args.box_no c.index-scripts-box_no.result c.as_slice.result.now
    c.numbered_call-taken.result.call
    (record { counts = c.requires.counts; within = c.requires.box_no; calls = c.as_slice.ensures })
    c.numbered_call-taken.ensures.call
