-- Places and boxes are drawn apart.
use Rattle.std.proofs.Common.{◌≡◌, ℕ, ◌+◌, ◌<◌, ◌≤◌, List, length, arith}
use Rattle.std.proofs.lemmas.List.FromFn.{get_or-map-range_with_len}
use Rattle.std.proofs.lemmas.List.Sums.{sum_by_more}
use Rattle.line_plan.specs.Plans.{PlanFields, box_at, no_box}
use Rattle.graph_picture.specs.Places.{level_at, room_of, top_at, top_of, tops_of}

-- the levels of places
pub levels_apart : (tops : List ℕ) (b one other : ℕ) → one < other
    → level_at tops b one + 14 ≤ level_at tops b other
levels_apart tops b one other before = omega (arith, before)

top_is : (plan : PlanFields) (b : ℕ) → b ≤ length plan.boxes → top_at (tops_of plan) b ≡ top_of plan.boxes b
top_is plan b within =
    get_or-map-range_with_len (top_of plan.boxes) 0 (length plan.boxes + 1) b b 0 (omega (arith, within)) (omega arith)

-- the top of the next box
next_top : (plan : PlanFields) (b : ℕ) → b < length plan.boxes
    → top_of plan.boxes (b + 1) ≡ top_of plan.boxes b + room_of (box_at plan.boxes b)
next_top plan b within =
    let more = sum_by_more room_of plan.boxes b no_box within in
    omega (arith, more)

-- a place of a box, and the next box
pub boxes_apart : (plan : PlanFields) (b place : ℕ) → b < length plan.boxes
    → place < length (box_at plan.boxes b).places
    → level_at (tops_of plan) b place + 100 ≤ top_at (tops_of plan) (b + 1)
boxes_apart plan b place within there =
    let here = top_is plan b (omega (arith, within)) in
    let below = top_is plan (b + 1) (omega (arith, within)) in
    let next = next_top plan b within in
    omega (arith, here, below, next, there)
