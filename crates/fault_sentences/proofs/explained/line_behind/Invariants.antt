use Rattle.std.proofs.Common.{◌≡◌, ◌-◌, slice_get}
use Rattle.rail_text.specs.Lines.{lines_of}
use Rattle.fault_sentences.proofs.explained.line_behind.Given as goal

abbrev pub invariant-loop : goal.invariant-loop
invariant-loop l = slice_get (lines_of l.lines.rest) (l.before - l.counter) ≡ slice_get (lines_of l.bytes) l.before
