-- The moments of a day, and how many lists have.
use Rattle.std.proofs.Common.{◌≡◌, ℕ, ◌+◌, ◌<◌, ◌≤◌, ◌^◌, ◌==◌, Bool, true, false, cond, List, [], ◌∷◌, All, max, min}
use Rattle.std.proofs.Common.{length, arith}
use Rattle.std.proofs.lemmas.List.Elements.{All-head, All-tail, All-weaker}
use Rattle.std.proofs.lemmas.List.FromFn.{length-map-range_with_len, map-range_with_len_more}
use Rattle.std.proofs.lemmas.List.Sums.{sum_by_more}
use Rattle.line_law.specs.declared.call.Entry.{Entry}
use Rattle.line_law.specs.Known.{moments_of}
use Rattle.line_plan.specs.Plans.{PlanFields}
use Rattle.graph_scene.specs.Moments.{AreOf, IsOf, earliest, latest, moments, offset_of, offsets_of, rooms_of}
use Rattle.graph_scene.specs.Moments.{start_by, starts_by}
use Rattle.graph_scene.proofs.Rooms.{length-rooms, offsets_few, rooms_few}

some : (first : Bool) → 0 < cond first 1440 86400
some true = omega arith
some false = omega arith

most : (first : Bool) → cond first 1440 86400 < 2 ^ 19
most true = omega arith
most false = omega arith

-- a day has some moments, and not too many
pub day_some : (version : ℕ) → 0 < moments_of version
day_some version = some (version == 1)

pub day_most : (version : ℕ) → moments_of version < 2 ^ 19
day_most version = most (version == 1)

pub earliest-le : (first : ℕ) (ms : List ℕ) → earliest first ms ≤ first
earliest-le first [] = omega arith
earliest-le first (m ∷ ms) = let h = earliest-le (min first m) ms in omega (arith, h)

latest_from : (plan : PlanFields) (first : ℕ) (es : List Entry) → first < moments_of plan.version → AreOf plan es
    → latest first (moments es) < moments_of plan.version
latest_from plan first [] within of = within
latest_from plan first (e ∷ es) within of =
    latest_from plan (max first e.call.moment) es
    (let h = All-head (IsOf plan) e es of in omega (arith, within, h.1)) (All-tail (IsOf plan) e es of)

-- the latest moment of a journal is one of a day
pub latest_of : (plan : PlanFields) (es : List Entry) → AreOf plan es
    → latest 0 (moments es) < moments_of plan.version
latest_of plan es of = latest_from plan 0 es (day_some plan.version) of

-- ---- lengths

pub length-starts : (version : ℕ) (rooms : List ℕ) → length (starts_by version rooms) ≡ length rooms + 1
length-starts version rooms = length-map-range_with_len (start_by version rooms) 0 (length rooms + 1)

pub length-offsets : (plan : PlanFields) (es : List Entry) → length (offsets_of plan es) ≡ length es
length-offsets plan es = length-map-range_with_len (offset_of plan es) 0 (length es)

-- each moment of a journal has a beginning
pub within_starts : (plan : PlanFields) (es : List Entry) → AreOf plan es
    → All (λ e. e.call.moment < length (starts_by plan.version (rooms_of plan es))) es
within_starts plan es of =
    All-weaker (IsOf plan) (λ e. e.call.moment < length (starts_by plan.version (rooms_of plan es)))
    (λ e is.
    let long = length-starts plan.version (rooms_of plan es) in
    let day = length-rooms plan es in
    omega (arith, long, day, is.1)) es of

pub ruleset step_rules = (map-range_with_len_more, sum_by_more)

pub ruleset day_rules = (
  day_some,
  day_most,
  earliest-le,
  latest_of,
  length-starts,
  length-offsets,
  length-rooms,
  within_starts,
  rooms_few,
  offsets_few,
)
