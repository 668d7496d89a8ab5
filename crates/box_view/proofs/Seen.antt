-- What a line tells of the trains and places of its boxes.
use Rattle.std.proofs.Common.{ℕ, ◌<◌, ◌≤◌, ◌^◌, length, All, IfSome, IsTrue, arith}
use Rattle.line_plan.specs.Plans.{IsPlan, PlanFields, is_train}
use Rattle.line_law.specs.Lines.{IsLineOf, PlainState}
use Rattle.line_law.specs.States.{box_at}

-- the trains at the places of a box are the plan's
pub trains_known : (plan : PlanFields) (plain : PlainState) (b : ℕ) → IsLineOf plan plain → b < length plan.boxes
    → All (λ there. IfSome there (λ train. IsTrue (is_train plan.trains train))) (box_at plain.line b).places
trains_known plan plain b is at = (is.boxes b at).shape.occupants

-- its places have small numbers
pub places_few : (plan : PlanFields) (plain : PlainState) (b : ℕ) → IsPlan plan → IsLineOf plan plain
    → b < length plan.boxes → length (box_at plain.line b).places ≤ 2 ^ 32
places_few plan plain b p is at =
    let same = (is.boxes b at).shape.frame.places in
    let few = (p.each b at).few_places in
    omega (arith, same, few)
