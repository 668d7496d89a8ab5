use Rattle.std.proofs.Common.{◌≡◌, ◌∙◌, Some, ap, sym}
use Rattle.line_plan.specs.Frames.{signal_of}
use Rattle.line_law.specs.Levers.{starter_way}
use Rattle.line_law.proofs.state.BoxState.overrun.Goals as goal

pub overrun_signal-requires-clause-room : goal.overrun_signal-requires-clause-room
overrun_signal-requires-clause-room c =
    λ way starts. c.requires.room way (ap starter_way (sym c.in-Some.ensures) ∙ starts)

pub returns-in-Some : goal.returns-in-Some
returns-in-Some c =
    let is : signal_of c.args.plan.now c.args.lever ≡ Some c.in-Some.signal.now = sym c.in-Some.ensures in
    rw is c.overrun_signal.ensures
