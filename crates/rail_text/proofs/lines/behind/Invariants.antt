use Rattle.std.proofs.Common.{◌≡◌, ◌+◌, ◌-◌, drop}
use Rattle.rail_text.specs.Lines.{words_of}
use Rattle.rail_text.proofs.lines.behind.Given as goal

abbrev pub invariant-loop : goal.invariant-loop
invariant-loop l = drop (l.i - l.counter + 1) (words_of l.rest) ≡ drop (l.i + 1) (words_of l.bytes)
