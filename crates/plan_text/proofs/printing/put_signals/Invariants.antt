use Rattle.std.proofs.Common.{◌≡◌, ◌++◌, drop, map, string_bytes}
use Rattle.plan_text.specs.Printing.{signal_line, printed}
use Rattle.plan_text.proofs.printing.put_signals.Given as goal

abbrev pub invariant-loop-signal : goal.invariant-loop-signal
invariant-loop-signal l =
    string_bytes l.out ++ printed (map (signal_line l.places) (drop l.signal-index l.signals))
    ≡ string_bytes l.initial.out ++ printed (map (signal_line l.places) l.signals)
