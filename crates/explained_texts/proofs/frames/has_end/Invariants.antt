use Rattle.std.proofs.Common.{length}
use Rattle.explained_texts.proofs.frames.has_end.Given as goal

abbrev pub decreases-loop-line : goal.decreases-loop-line
decreases-loop-line l = length l.lines.rest
