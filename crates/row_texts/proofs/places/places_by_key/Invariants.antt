use Rattle.std.proofs.Common.{take}
use Rattle.row_texts.specs.Places.{AreFiled}
use Rattle.row_texts.proofs.places.places_by_key.Given as goal

abbrev pub invariant-loop-place : goal.invariant-loop-place
invariant-loop-place l = AreFiled l.most (take l.place l.keys) l.lists.items
