-- A thing is found again from its numbers; so things with the same numbers are one.
use Rattle.std.proofs.Common.{◌≡◌, ◌≢◌, ℕ, Bool, true, false, Option, Some, None, refl, ap, ◌∙◌}
use Rattle.block_words.specs.Instruments.{position_code}
use Rattle.block_words.specs.declared.Position.{Position}
use Rattle.block_words.specs.declared.Way.{Way}
use Rattle.line_law.specs.Replies.{mark_number}
use Rattle.look_records.specs.declared.thing.BoxThing.{BoxThing}
use Rattle.look_records.specs.declared.thing.BoxThing.TheVariants as things
use Rattle.look_records.specs.declared.thing.LineTrains.{LineTrains}
use Rattle.line_numbers.specs.Parts.{mark_of, number_if, position_of, some_if}
use Rattle.line_numbers.specs.ThingParts.{IsFromOne, arm_number, arm_of, thing_in, thing_numbers, trains_of}
use Rattle.line_numbers.proofs.PartsAgain.{mark_again, number_again, position_again, way_again}

arm_again : (arm : Option Bool) → arm_of (arm_number arm) ≡ arm
arm_again None = refl
arm_again (Some true) = refl
arm_again (Some false) = refl

-- a plain line's trains
abbrev of_four : Option ℕ → Option ℕ → Option ℕ → Option ℕ → LineTrains
of_four a b c d = record { first = a; second = b; third = c; fourth = d }

-- the trains of a plain line are found again
trains_again : (trains : LineTrains) → trains.first ≢ Some 0 → trains.second ≢ Some 0 → trains.third ≢ Some 0
    → trains.fourth ≢ Some 0
    → of_four (some_if (number_if trains.first)) (some_if (number_if trains.second))
    (some_if (number_if trains.third)) (some_if (number_if trains.fourth)) ≡ trains
trains_again trains first second third fourth =
    four _ _ _ _ _ _ _ _ (number_again trains.first first) (number_again trains.second second)
    (number_again trains.third third) (number_again trains.fourth fourth)
  where
    -- the trains of equal numbers
    four : (a b c d p q r s : Option ℕ) → a ≡ p → b ≡ q → c ≡ r → d ≡ s → of_four a b c d ≡ of_four p q r s
    four a b c d p q r s a_is b_is c_is d_is =
        ap (λ (x : Option ℕ). of_four x b c d) a_is ∙ (ap (λ (x : Option ℕ). of_four p x c d) b_is
        ∙ (ap (λ (x : Option ℕ). of_four p q x d) c_is ∙ ap (λ (x : Option ℕ). of_four p q r x) d_is))

pub thing_again : (thing : BoxThing) → IsFromOne thing → thing_in (thing_numbers thing) ≡ Some thing
thing_again (things.Lever n reversed off) from_one =
    ap (λ (mark : Bool). Some (things.Lever n mark (arm_of (arm_number off)))) (mark_again reversed)
    ∙ ap (λ (arm : Option Bool). Some (things.Lever n reversed arm)) (arm_again off)
thing_again (things.Place p train) from_one =
    ap (λ (t : Option ℕ). Some (things.Place p t)) (number_again train from_one)
thing_again (things.Bell way unheard) from_one =
    ap (λ (w : Way). Some (things.Bell w (some_if (number_if unheard)))) (way_again way)
    ∙ ap (λ (code : Option ℕ). Some (things.Bell way code)) (number_again unheard from_one)
thing_again (things.Line way trains portion) from_one =
    ap (λ (w : Way). Some (things.Line w (trains_of (thing_numbers (things.Line way trains portion)))
    (mark_of (mark_number portion)))) (way_again way)
    ∙ (ap (λ (four : LineTrains). Some (things.Line way four (mark_of (mark_number portion))))
    (trains_again trains from_one.0 from_one.1 from_one.2 from_one.3)
    ∙ ap (λ (mark : Bool). Some (things.Line way trains mark)) (mark_again portion))
thing_again (things.Block way position) from_one =
    ap (λ (w : Way). Some (things.Block w (position_of (position_code position)))) (way_again way)
    ∙ ap (λ (p : Position). Some (things.Block way p)) (position_again position)

-- values that are the same option are one
one_of : (thing other : BoxThing) (found : Option BoxThing) → found ≡ Some thing → found ≡ Some other → thing ≡ other
one_of thing other found first second = cc

pub one_thing : (thing other : BoxThing) → IsFromOne thing → IsFromOne other
    → thing_numbers thing ≡ thing_numbers other → thing ≡ other
one_thing thing other from_one other_from_one same =
    one_of thing other (thing_in (thing_numbers thing)) (thing_again thing from_one)
    (ap thing_in same ∙ thing_again other other_from_one)
