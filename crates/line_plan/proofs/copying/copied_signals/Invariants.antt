use Rattle.std.proofs.Common.{◌≡◌, take}
use Rattle.line_plan.proofs.copying.copied_signals.Given as goal

abbrev pub invariant-loop-signal : goal.invariant-loop-signal
invariant-loop-signal l = l.copied.items ≡ take l.signal-index l.signals
