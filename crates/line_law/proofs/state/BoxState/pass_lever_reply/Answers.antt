use Rattle.std.proofs.Common.{◌≡◌, Some, sym}
use Rattle.line_plan.specs.Frames.{signal_of}
use Rattle.line_law.proofs.state.BoxState.pass_lever_reply.Goals as goal

pub returns-in-Some : goal.returns-in-Some
returns-in-Some c =
    let is : signal_of c.args.plan.now c.args.lever ≡ Some c.in-Some.signal.now = sym c.in-Some.ensures in
    rw is c.pass_reply.ensures
