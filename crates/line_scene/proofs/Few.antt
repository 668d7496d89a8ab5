-- A line has few boxes, and a box few places.
use Rattle.std.proofs.Common.{◌≡◌, ℕ, ◌<◌, ◌≤◌, ◌^◌, ◌==◌, All, Bool, true, false, cond, length, arith}
use Rattle.std.proofs.lemmas.List.Elements.{All-from_get_or}
use Rattle.line_plan.specs.Frames.{BoxFields}
use Rattle.line_plan.specs.Plans.{IsPlan, PlanFields, no_box}
use Rattle.line_law.specs.Lines.{IsLineOf, PlainState}
use Rattle.line_law.specs.States.{box_at}

-- a box has few places
pub few_places : (plan : PlanFields) → IsPlan plan
    → All (λ (box_plan : BoxFields). length box_plan.places ≤ 64) plan.boxes
few_places plan is =
    All-from_get_or (λ (box_plan : BoxFields). length box_plan.places ≤ 64) plan.boxes no_box
    (λ b within. (is.each b within).few_places)

-- the places of a box of a line have small numbers
pub places_few : (plan : PlanFields) (plain : PlainState) (b : ℕ) → IsPlan plan → IsLineOf plan plain
    → b < length plan.boxes → length (box_at plain.line b).places ≤ 2 ^ 32
places_few plan plain b p is at =
    let same = (is.boxes b at).shape.frame.places in
    let few = (p.each b at).few_places in
    omega (arith, same, few)

-- a line has a state of each box
pub box_there : (plan : PlanFields) (plain : PlainState) → IsLineOf plan plain
    → length plain.line.boxes ≡ length plan.boxes
box_there plan plain is = is.shape.boxes

-- a line has few boxes
most : (first : Bool) (n : ℕ) → n ≤ cond first 32 64 → n ≤ 64
most true n h = omega (arith, h)
most false n h = h

pub few_boxes : (plan : PlanFields) → IsPlan plan → length plan.boxes ≤ 64
few_boxes plan is = most (plan.version == 1) (length plan.boxes) is.most
