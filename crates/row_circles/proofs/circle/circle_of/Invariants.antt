use Rattle.row_circles.specs.Chains.{IsFollowed, left_of}
use Rattle.row_circles.proofs.circle.circle_of.Given as goal

abbrev pub invariant-rows : goal.invariant-rows
invariant-rows l = IsFollowed l.walk l.holders l.lever l.chain

abbrev pub decreases-rows : goal.decreases-rows
decreases-rows l = left_of l.chain
