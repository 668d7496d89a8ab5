use Rattle.std.proofs.Common.{◌≡◌, ◌+◌, [], drop}
use Rattle.arrayvec.specs.ArrayVec.{array_vec_len}
use Rattle.plan_draft.specs.LineWords.{places_onto}
use Rattle.plan_draft.proofs.line_words.places_from.Given as goal

abbrev pub invariant-loop-i : goal.invariant-loop-i
invariant-loop-i l =
    (places_onto l.names l.places.items (drop l.i l.words) ≡ places_onto l.names [] (drop l.first l.words))
    × (array_vec_len l.places + l.first ≡ l.i)
