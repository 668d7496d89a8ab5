use Rattle.std.proofs.Common.{◌≡◌, length}
use Rattle.frame_ways.proofs.ways.go_towards.Given as goal

abbrev pub invariant-loop : goal.invariant-loop
invariant-loop l = (l.walker.rows ≡ l.fn.walker.rows) × (length l.walker.ends ≡ length l.fn.walker.ends)
