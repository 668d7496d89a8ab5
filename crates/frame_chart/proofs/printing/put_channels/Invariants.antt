use Rattle.std.proofs.Common.{◌≡◌, ◌++◌, string_bytes}
use Rattle.frame_chart.specs.Printing.{channels_text}
use Rattle.frame_chart.proofs.printing.put_channels.Given as goal

abbrev pub invariant-loop-before : goal.invariant-loop-before
invariant-loop-before l = string_bytes l.out ≡ string_bytes l.initial.out
    ++ channels_text l.levers l.bridles l.channels l.before
