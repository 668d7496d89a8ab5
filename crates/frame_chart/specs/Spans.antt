-- The span of a bridle, and the levers that cross it.
use Rattle.std.specs.Prelude.{ℕ, ◌≤◌, List, [], ◌∷◌, Bool, ◌&&◌, nat_le, map, max, min, slice_index_or}
use Rattle.bridle_frame.specs.declared.bridle.Dog.{Dog}
use Rattle.bridle_frame.specs.declared.bridle.Bridle.{Bridle}
use Rattle.frame_chart.specs.declared.span.Span.{Span}

abbrev pub no_span : Span
no_span = record { lowest = 0; highest = 0 }

-- the span once a dog on this lever is added
abbrev pub widened : Span → ℕ → Span
widened span lever = record { lowest = min span.lowest lever; highest = max span.highest lever }

abbrev pub widened_by : Span → List Dog → Span
widened_by span [] = span
widened_by span (dog ∷ dogs) = widened_by (widened span dog.lever) dogs

-- from the lowest to the highest lever of these dogs
abbrev pub span_of_dogs : List Dog → Span
span_of_dogs [] = no_span
span_of_dogs (dog ∷ dogs) = widened_by (record { lowest = dog.lever; highest = dog.lever }) dogs

-- a bridle spans from its lowest to its highest lever
abbrev pub span_of : Bridle → Span
span_of bridle = span_of_dogs bridle.dogs

abbrev pub spans_of : List Bridle → List Span
spans_of bridles = map span_of bridles

-- the span of the bridle at this place, from 0
abbrev pub span_at : List Span → ℕ → Span
span_at spans at = slice_index_or spans at no_span

-- a lever crosses a bridle where it lies in its span
abbrev pub Crosses : ℕ → Span → Type 0
Crosses lever span = (span.lowest ≤ lever) × (lever ≤ span.highest)

abbrev pub crosses : ℕ → Span → Bool
crosses lever span = nat_le span.lowest lever && nat_le lever span.highest

-- no lever crosses both
abbrev pub AreApart : Span → Span → Type 0
AreApart one other = (lever : ℕ) → Crosses lever one → Crosses lever other → ⊥
