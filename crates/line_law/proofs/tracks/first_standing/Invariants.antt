use Rattle.std.proofs.Common.{◌≡◌, drop}
use Rattle.line_law.specs.Tracks.{first_standing}
use Rattle.line_law.proofs.tracks.first_standing.Given as goal

abbrev pub invariant-loop-place : goal.invariant-loop-place
invariant-loop-place l = first_standing l.places (drop l.place-index l.wanted) ≡ first_standing l.places l.wanted
