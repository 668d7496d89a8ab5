use Rattle.row_texts.specs.Places.{AreEmpty}
use Rattle.row_texts.proofs.places.no_places.Given as goal

abbrev pub invariant-loop-made : goal.invariant-loop-made
invariant-loop-made l = AreEmpty l.made l.lists.items
