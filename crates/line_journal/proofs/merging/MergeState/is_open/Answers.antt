use Rattle.std.proofs.Common.{arith}
use Rattle.line_journal.proofs.Looping.{own_box}
use Rattle.line_journal.proofs.merging.MergeState.is_open.Goals as goal

pub fits-requires-clause-within : goal.fits-requires-clause-within
fits-requires-clause-within c =
    let own =
    own_box c.args.plan.now c.args.self.now.left c.args.box_no c.args.entry.now _ c.requires.line.boxes c.requires.next
    in omega (arith, own.pair, c.requires.line.words, c.requires.pair)

pub is_passed-requires-clause-own : goal.is_passed-requires-clause-own
is_passed-requires-clause-own c =
    (own_box c.args.plan.now c.args.self.now.left c.args.box_no c.args.entry.now _ c.requires.line.boxes
    c.requires.next).own

pub is_passed-requires-clause-entry : goal.is_passed-requires-clause-entry
is_passed-requires-clause-entry c =
    (own_box c.args.plan.now c.args.self.now.left c.args.box_no c.args.entry.now _ c.requires.line.boxes
    c.requires.next).box
