use Rattle.std.proofs.Common.{length}
use Rattle.fault_sentences.proofs.numbered_line.push_lines.Given as goal

abbrev pub decreases-loop-line : goal.decreases-loop-line
decreases-loop-line l = length l.lines.rest
