use Rattle.std.proofs.Common.{◌≡◌, drop}
use Rattle.train_moves.specs.Standings.{first_standing}
use Rattle.train_moves.proofs.standing.first_standing.Given as goal

abbrev pub invariant-loop-place : goal.invariant-loop-place
invariant-loop-place l = first_standing l.tracks (drop l.place-index l.wanted) ≡ first_standing l.tracks l.wanted
