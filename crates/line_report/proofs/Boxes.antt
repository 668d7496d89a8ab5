-- The box that a word names.
use Rattle.std.proofs.Common.{◌≡◌, ℕ, ◌<◌, List, length, Some, sym, ap, ◌∙◌, arith, bytes_eq, position}
use Rattle.std.proofs.Common.{slice_get}
use Rattle.std.proofs.lemmas.List.{length-map}
use Rattle.line_plan.specs.Frames.{BoxFields}
use Rattle.line_plan.specs.Plans.{names_of}
use Rattle.rail_text.specs.Names.{AreNumbered}
use Rattle.rail_text.proofs.DistinctNames.{position-distinct}
use Rattle.script_text.proofs.Named.{found_is}

-- is one of the line
pub named_below : (boxes : List BoxFields) (word : List ℕ) (b : ℕ) → Some b ≡ position (bytes_eq word) (names_of boxes)
    → b < length boxes
named_below boxes word b e =
    omega (arith, (found_is (names_of boxes) word b (sym e)).0, length-map boxes (λ box_plan. box_plan.name))

-- the name at a number is found there
pub is_named : (boxes : List BoxFields) (names : List (List ℕ)) (b : ℕ) (name word : List ℕ) → names ≡ names_of boxes
    → AreNumbered names → slice_get names b ≡ Some name → name ≡ word
    → position (bytes_eq word) (names_of boxes) ≡ Some b
is_named boxes names b name word are numbered at same =
    ap (λ (all : List (List ℕ)). position (bytes_eq word) all) (sym are)
    ∙ position-distinct names b word numbered.distinct (at ∙ ap (λ (w : List ℕ). Some w) same)
