use Rattle.std.proofs.Common.{arith}
use Rattle.desk_tests.proofs.Lines.{one_more}
use Rattle.desk_tests.proofs.line.push_desks.Goals as goal

pub loop-box_no-preserved : goal.loop-box_no-preserved
loop-box_no-preserved c =
    let end = c.requires.boxes in
    let below = c.loop-box_no-test.true in
    rw c.in_ok-push.ensures.items
    (one_more c.args.plan.now c.loop-box_no.box_no c.loop-box_no.desks.items c.in_ok-desk.desk
    (omega (arith, end, below)) c.loop-box_no.invariant c.in_ok-desk.ensures.desk c.in_ok-desk.ensures.here
    c.in_ok-desk.ensures.calls)
