use Rattle.std.proofs.Common.{◌≡◌, ◌++◌, string_bytes}
use Rattle.line_maker.specs.MadeTexts.{trains_text}
use Rattle.line_maker.proofs.made_text.put_trains.Given as goal

abbrev pub invariant-loop-before : goal.invariant-loop-before
invariant-loop-before l = string_bytes l.out ≡ string_bytes l.initial.out ++ trains_text l.before
