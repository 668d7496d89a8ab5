-- Entries that are shown stand apart, and earlier ones on the left of later ones.
use Rattle.std.proofs.Common.{◌≡◌, ◌∙◌, ℕ, zero, suc, ◌+◌, ◌-◌, ◌*◌, ◌/◌, ◌<◌, ◌≤◌, ◌==◌, Bool, true, false, List, []}
use Rattle.std.proofs.Common.{◌∷◌, Option, Some, None, max, min, cond, length, get_or, take, refl, ap, sym, subst}
use Rattle.std.proofs.Common.{arith, true≢false}
use Rattle.std.proofs.lemmas.List.{take-take}
use Rattle.std.proofs.lemmas.List.FromFn.{get_or-map-range_with_len, length-map-range_with_len}
use Rattle.std.proofs.lemmas.List.Sums.{sum_by-take-le, sum_by_more}
use Rattle.std.specs.List.{sum_by}
use Rattle.std.specs.Prelude.{◌||◌, is_some, slice_index}
use Rattle.line_law.specs.declared.call.Entry.{Entry}
use Rattle.line_law.specs.Known.{moments_of}
use Rattle.line_plan.specs.Plans.{PlanFields}
use Rattle.graph_scene.specs.declared.deeds.TrainDeed.{TrainDeed}
use Rattle.graph_scene.specs.Deeds.{deed_of}
use Rattle.graph_scene.specs.Moments.{AreOf, IsEntry, axis_of, beginning_of, earliest, end_of, is_shown, latest}
use Rattle.graph_scene.specs.Moments.{moment_at, moments, offset_of, offsets_of, place_of, places_by, room_at, room_by}
use Rattle.graph_scene.specs.Moments.{room_for, room_of, rooms_of, start_at, start_by, starts_of, taken_at, ten_minutes}
use Rattle.graph_scene.specs.Moments.{width_for}
use Rattle.graph_scene.specs.Turns.{turn_of}
use Rattle.graph_scene.specs.Words.{train_name, words_of}
use Rattle.graph_scene.proofs.Days.{earliest-le, latest_of}
use Rattle.graph_scene.proofs.Rooms.{length-rooms, moment_read, room_read, taken_more}

-- ---- places

place_at : (starts offsets : List ℕ) (b : ℕ) (ms : List ℕ) (i : ℕ) → i < length offsets → i < length ms
    → slice_index (places_by starts offsets b ms) i
    ≡ (slice_index starts (slice_index ms i) - slice_index starts b) + slice_index offsets i
place_at starts [] b ms i within there = absurd (omega (arith, within))
place_at starts (offset ∷ offsets) b [] i within there = absurd (omega (arith, there))
place_at starts (offset ∷ offsets) b (m ∷ ms) zero within there = refl
place_at starts (offset ∷ offsets) b (m ∷ ms) (suc i) within there =
    place_at starts offsets b ms i (omega (arith, within)) (omega (arith, there))

length-moments : (es : List Entry) → length (moments es) ≡ length es
length-moments [] = refl
length-moments (e ∷ es) = ap suc (length-moments es)

-- where entry i stands, by its moment and its offset
place_is : (plan : PlanFields) (es : List Entry) (i : ℕ) → i < length es
    → place_of plan es i
    ≡ (slice_index (starts_of plan es) (moment_at es i) - slice_index (starts_of plan es) (beginning_of plan es))
    + offset_of plan es i
place_is plan es i there =
    let long = length-map-range_with_len (offset_of plan es) 0 (length es) in
    let same = length-moments es in
    let offset : slice_index (offsets_of plan es) i ≡ offset_of plan es i =
    get_or-map-range_with_len (offset_of plan es) 0 (length es) i i 0 there (omega arith) in
    place_at (starts_of plan es) (offsets_of plan es) (beginning_of plan es) (moments es) i
    (omega (arith, there, long)) (omega (arith, there, same))
    ∙ ap (λ (r : ℕ). (slice_index (starts_of plan es) (moment_at es i)
    - slice_index (starts_of plan es) (beginning_of plan es)) + r) offset

moment_of : (es : List Entry) (i : ℕ) (e : Entry) → IsEntry es i e → moment_at es i ≡ e.call.moment
moment_of es i e its = moment_read es i e its.there ∙ ap (λ (x : Entry). x.call.moment) its.is

-- ---- rooms

for_least : (none : Bool) (n : ℕ) → 8 ≤ cond none 8 (14 + 6 * min n 24)
for_least true n = omega arith
for_least false n = omega arith

room_least : (n : ℕ) → 8 ≤ room_for n
room_least n = for_least (n == 0) n

room_some : (plan : PlanFields) (its : Option TrainDeed) (turns : Bool) → (is_some its || turns) ≡ true
    → 8 ≤ room_by plan its turns
room_some plan (Some its) turns shown = room_least (length (words_of (train_name plan its.train) its.deed))
room_some plan None true shown = room_least 0
room_some plan None false shown = absurd (true≢false (sym shown))

-- an entry that is shown takes room
pub shown_room : (plan : PlanFields) (e : Entry) → is_shown plan e ≡ true → 8 ≤ room_of plan e
shown_room plan e shown = room_some plan (deed_of plan 0 e) (is_some (turn_of e)) shown

taken_grows : (plan : PlanFields) (m : ℕ) (es : List Entry) (i j : ℕ) → i ≤ j
    → taken_at plan m (take i es) ≤ taken_at plan m (take j es)
taken_grows plan m es i j h =
    subst (λ (xs : List Entry). taken_at plan m xs ≤ taken_at plan m (take j es)) (take-take i j es h)
    (sum_by-take-le (room_at plan m) (take j es) i)

-- an entry takes its room of its moment
takes : (plan : PlanFields) (es : List Entry) (i : ℕ) (e : Entry) → IsEntry es i e
    → taken_at plan e.call.moment (take (i + 1) es) ≡ taken_at plan e.call.moment (take i es) + room_of plan e
takes plan es i e its =
    taken_more plan es i e.call.moment e its.there (ap (λ (x : Entry). x.call.moment) its.is)
    ∙ ap (λ (x : Entry). taken_at plan e.call.moment (take i es) + room_of plan x) its.is

offset_is : (plan : PlanFields) (es : List Entry) (i : ℕ) (e : Entry) → IsEntry es i e
    → offset_of plan es i ≡ taken_at plan e.call.moment (take i es)
offset_is plan es i e its = ap (λ (m : ℕ). taken_at plan m (take i es)) (moment_of es i e its)

-- of one moment the later entry stands on the right
pub one_moment : (plan : PlanFields) (es : List Entry) (i j : ℕ) (one other : Entry) → IsEntry es i one
    → IsEntry es j other → one.call.moment ≡ other.call.moment → i < j
    → place_of plan es i + room_of plan one ≤ place_of plan es j
one_moment plan es i j one other first second same before =
    let here = place_is plan es i first.there in
    let there = place_is plan es j second.there in
    let moments : moment_at es i ≡ moment_at es j =
    moment_of es i one first ∙ same ∙ sym (moment_of es j other second) in
    let starts : slice_index (starts_of plan es) (moment_at es i) ≡ slice_index (starts_of plan es) (moment_at es j) =
    ap (slice_index (starts_of plan es)) moments in
    let offset = offset_is plan es i one first in
    let later : offset_of plan es j ≡ taken_at plan one.call.moment (take j es) =
    offset_is plan es j other second ∙ ap (λ (m : ℕ). taken_at plan m (take j es)) (sym same) in
    let more = takes plan es i one first in
    let grows = taken_grows plan one.call.moment es (i + 1) j (omega (arith, before)) in
    omega (arith, here, there, starts, offset, later, more, grows)

-- ---- moments

start_grows : (version : ℕ) (rooms : List ℕ) (m n : ℕ) → m ≤ n
    → start_by version rooms m ≤ start_by version rooms n
start_grows version rooms m n h =
    subst (λ (xs : List ℕ). sum_by (width_for version) xs ≤ sum_by (width_for version) (take n rooms))
    (take-take m n rooms h) (sum_by-take-le (width_for version) (take n rooms) m)

start_is : (plan : PlanFields) (es : List Entry) (m : ℕ) → m ≤ moments_of plan.version
    → slice_index (starts_of plan es) m ≡ start_by plan.version (rooms_of plan es) m
start_is plan es m within =
    let long = length-rooms plan es in
    get_or-map-range_with_len (start_by plan.version (rooms_of plan es)) 0 (length (rooms_of plan es) + 1) m m 0
    (omega (arith, long, within)) (omega arith)

earliest_of : (first : ℕ) (ms : List ℕ) (i : ℕ) → i < length ms → earliest first ms ≤ slice_index ms i
earliest_of first [] i within = absurd (omega (arith, within))
earliest_of first (m ∷ ms) zero within = let h = earliest-le (min first m) ms in omega (arith, h)
earliest_of first (m ∷ ms) (suc i) within = earliest_of (min first m) ms i (omega (arith, within))

full_by : (first : Bool) (moment : ℕ) → moment / cond first 10 600 * cond first 10 600 ≤ moment
full_by true moment = omega arith
full_by false moment = omega arith

full : (version moment : ℕ) → moment / ten_minutes version * ten_minutes version ≤ moment
full version moment = full_by (version == 1) moment

-- a graph begins no later than its entries
begins : (plan : PlanFields) (es : List Entry) (i : ℕ) → i < length es → beginning_of plan es ≤ moment_at es i
begins plan es i there =
    let same = length-moments es in
    let first = earliest_of (moments_of plan.version - 1) (moments es) i (omega (arith, there, same)) in
    let rounded = full plan.version (earliest (moments_of plan.version - 1) (moments es)) in
    omega (arith, first, rounded)

-- an entry has its room before each later moment begins
before_moment : (plan : PlanFields) (es : List Entry) (i n : ℕ) (one : Entry) → IsEntry es i one
    → one.call.moment < n → n ≤ moments_of plan.version
    → place_of plan es i + room_of plan one ≤ start_at (axis_of plan es) n
before_moment plan es i n one first earlier day =
    let rooms = rooms_of plan es in
    let here = place_is plan es i first.there in
    let m = moment_of es i one first in
    let begun = begins plan es i first.there in
    let at_m : slice_index (starts_of plan es) (moment_at es i) ≡ start_by plan.version rooms one.call.moment =
    ap (slice_index (starts_of plan es)) m ∙ start_is plan es one.call.moment (omega (arith, earlier, day)) in
    let at_n = start_is plan es n day in
    let at_b : slice_index (starts_of plan es) (beginning_of plan es)
    ≡ start_by plan.version rooms (beginning_of plan es) =
    start_is plan es (beginning_of plan es) (omega (arith, begun, m, earlier, day)) in
    let from_b = start_grows plan.version rooms (beginning_of plan es) one.call.moment (omega (arith, begun, m)) in
    let wide = sum_by_more (width_for plan.version) rooms one.call.moment 0
    (let long = length-rooms plan es in omega (arith, long, earlier, day)) in
    let room = room_read plan es one.call.moment 0 (omega (arith, earlier, day)) in
    let to_n = start_grows plan.version rooms (one.call.moment + 1) n (omega (arith, earlier)) in
    let offset = offset_is plan es i one first in
    let more = takes plan es i one first in
    let all = sum_by-take-le (room_at plan one.call.moment) es (i + 1) in
    let width : taken_at plan one.call.moment es ≤ width_for plan.version (get_or rooms one.call.moment 0) =
    omega (arith, room) in
    omega (arith, here, at_m, at_n, at_b, from_b, wide, width, to_n, offset, more, all)

-- an entry of an earlier moment stands on the left
pub earlier_moment : (plan : PlanFields) (es : List Entry) (i j : ℕ) (one other : Entry) → IsEntry es i one
    → IsEntry es j other → one.call.moment < other.call.moment → other.call.moment < moments_of plan.version
    → place_of plan es i + room_of plan one ≤ place_of plan es j
earlier_moment plan es i j one other first second earlier day =
    let there = place_is plan es j second.there in
    let n : slice_index (starts_of plan es) (moment_at es j) ≡ slice_index (starts_of plan es) other.call.moment =
    ap (slice_index (starts_of plan es)) (moment_of es j other second) in
    let room = before_moment plan es i other.call.moment one first earlier (omega (arith, day)) in
    omega (arith, there, n, room)

-- ---- the end

latest-ge : (first : ℕ) (ms : List ℕ) → first ≤ latest first ms
latest-ge first [] = omega arith
latest-ge first (m ∷ ms) = let h = latest-ge (max first m) ms in omega (arith, h)

latest_is : (first : ℕ) (ms : List ℕ) (i : ℕ) → i < length ms → slice_index ms i ≤ latest first ms
latest_is first [] i within = absurd (omega (arith, within))
latest_is first (m ∷ ms) zero within = let h = latest-ge (max first m) ms in omega (arith, h)
latest_is first (m ∷ ms) (suc i) within = latest_is (max first m) ms i (omega (arith, within))

after_by : (first : Bool) (m : ℕ) → m < (m / cond first 10 600 + 1) * cond first 10 600
after_by true m = omega arith
after_by false m = omega arith

within_by : (first : Bool) (m : ℕ) → m < cond first 1440 86400
    → (m / cond first 10 600 + 1) * cond first 10 600 ≤ cond first 1440 86400
within_by true m h = omega (arith, h)
within_by false m h = omega (arith, h)

-- a graph ends behind the room of each entry
pub before_end : (plan : PlanFields) (es : List Entry) (i : ℕ) (one : Entry) → AreOf plan es → IsEntry es i one
    → place_of plan es i + room_of plan one ≤ start_at (axis_of plan es) (end_of plan es)
before_end plan es i one of its =
    let same = length-moments es in
    let there = its.there in
    let last = latest_is 0 (moments es) i (omega (arith, there, same)) in
    let after = after_by (plan.version == 1) (latest 0 (moments es)) in
    let m = moment_of es i one its in
    before_moment plan es i (end_of plan es) one its (omega (arith, last, after, m))
    (within_by (plan.version == 1) (latest 0 (moments es)) (latest_of plan es of))

pub ruleset place_rules = (shown_room, one_moment, earlier_moment, before_end)
