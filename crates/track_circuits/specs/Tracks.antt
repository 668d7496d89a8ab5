-- The track circuits of a box.
use Rattle.std.specs.Prelude.{ℕ, List, Option, None, slice_index_or}

-- the train at a place, if one stands there
abbrev pub occupant_of : List (Option ℕ) → ℕ → Option ℕ
occupant_of tracks place = slice_index_or tracks place None
