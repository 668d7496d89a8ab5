use Rattle.std.proofs.Common.{ℕ, ◌<◌, All}
use Rattle.row_refutations.proofs.searching.places_of.Given as goal

abbrev pub invariant-loop-at : goal.invariant-loop-at
invariant-loop-at l = All (λ (at : ℕ). at < l.rows) l.places.items
