-- The bytes of the part that are left.
use Rattle.std.proofs.Common.{length}
use Rattle.worked_cases.proofs.spelling.spell_bytes.Given as goal

abbrev pub decreases-loop-first : goal.decreases-loop-first
decreases-loop-first l = length l.rest
