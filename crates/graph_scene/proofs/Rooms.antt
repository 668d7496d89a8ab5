-- The room that entries take of each moment, entry by entry.
use Rattle.std.proofs.Common.{◌≡◌, ◌≢◌, ◌∙◌, ℕ, ◌+◌, ◌*◌, ◌<◌, ◌≤◌, ◌^◌, ◌==◌, Bool, true, false, List, [], ◌∷◌}
use Rattle.std.proofs.Common.{inl, inr, Option, Some, None, All, length, min, get_or, cond, set, take, replicate, refl}
use Rattle.std.proofs.Common.{ap, sym, arith, zero, suc}
use Rattle.std.proofs.lemmas.Bool.{cases_eq, eq-eqb, ne_eqb}
use Rattle.std.proofs.lemmas.List.{get_or-replicate, get_or-set_other, get_or-set_same, length-replicate, length-set}
use Rattle.std.proofs.lemmas.List.{length-take}
use Rattle.std.proofs.lemmas.List.Elements.{All-from_get_or}
use Rattle.std.proofs.lemmas.List.FromFn.{fill_by_all, get_or-map-range_with_len, length-map-range_with_len}
use Rattle.std.proofs.lemmas.List.FromFn.{map-range_with_len_more}
use Rattle.std.proofs.lemmas.List.Sums.{sum_by-cons, sum_by_more}
use Rattle.std.specs.Prelude.{is_some}
use Rattle.block_words.specs.declared.Way.TheVariants.{Up}
use Rattle.line_law.specs.declared.call.Act.TheVariants as acts
use Rattle.line_law.specs.declared.call.Entry.{Entry}
use Rattle.line_law.specs.declared.call.Reply.TheVariants as replies
use Rattle.line_law.specs.Known.{moments_of}
use Rattle.line_plan.specs.Plans.{PlanFields}
use Rattle.graph_scene.specs.declared.deeds.TrainDeed.{TrainDeed}
use Rattle.graph_scene.specs.Deeds.{deed_of}
use Rattle.graph_scene.specs.Moments.{moment_at, offset_of, offsets_of, room_at, room_by, room_for, room_of, rooms_of}
use Rattle.graph_scene.specs.Moments.{taken_at, with_room}
use Rattle.graph_scene.specs.Turns.{turn_of}
use Rattle.graph_scene.specs.Words.{train_name, words_of}

-- what is read where a journal has no entry
abbrev pub no_entry : Entry
no_entry = record { box_no = 0; call = record { moment = 0; act = acts.Ring Up 0 }; reply = replies.Rung 0 }

-- ---- how much room is taken

for_few : (none : Bool) (n : ℕ) → cond none 8 (14 + 6 * min n 24) ≤ 158
for_few true n = omega arith
for_few false n = omega arith

room_few : (n : ℕ) → room_for n ≤ 158
room_few n = for_few (n == 0) n

by_few : (plan : PlanFields) (its : Option TrainDeed) (turns : Bool) → room_by plan its turns ≤ 158
by_few plan (Some its) turns = room_few (length (words_of (train_name plan its.train) its.deed))
by_few plan None true = room_few 0
by_few plan None false = omega arith

cond_few : (test : Bool) (n : ℕ) → n ≤ 158 → cond test n 0 ≤ 158
cond_few true n h = h
cond_few false n h = omega arith

at_few : (plan : PlanFields) (m : ℕ) (e : Entry) → room_at plan m e ≤ 158
at_few plan m e =
    cond_few (e.call.moment == m) (room_of plan e) (by_few plan (deed_of plan 0 e) (is_some (turn_of e)))

taken_few : (plan : PlanFields) (m : ℕ) (es : List Entry) → taken_at plan m es ≤ length es * 158
taken_few plan m [] = omega arith
taken_few plan m (e ∷ es) =
    let first = at_few plan m e in
    let rest = taken_few plan m es in
    let both = sum_by-cons (room_at plan m) e es in
    omega (arith, first, rest, both)

-- ---- the rooms of the moments

-- the room of a moment
pub room_read : (plan : PlanFields) (es : List Entry) (m d : ℕ) → m < moments_of plan.version
    → get_or (rooms_of plan es) m d ≡ taken_at plan m es
room_read plan es m d within =
    get_or-map-range_with_len (λ (m : ℕ). taken_at plan m es) 0 (moments_of plan.version) m m d within (omega arith)

pub length-rooms : (plan : PlanFields) (es : List Entry) → length (rooms_of plan es) ≡ moments_of plan.version
length-rooms plan es = length-map-range_with_len (λ (m : ℕ). taken_at plan m es) 0 (moments_of plan.version)

-- no entries take no room
pub rooms_none : (plan : PlanFields) → replicate (moments_of plan.version) 0 ≡ rooms_of plan []
rooms_none plan =
    fill_by_all (λ (m : ℕ). taken_at plan m []) (replicate (moments_of plan.version) 0) (moments_of plan.version) 0
    (length-replicate (moments_of plan.version) 0)
    (λ k within. get_or-replicate (moments_of plan.version) k 0 0 within)

-- an entry takes its room of its own moment ..
at_same : (plan : PlanFields) (m : ℕ) (e : Entry) → e.call.moment ≡ m → room_at plan m e ≡ room_of plan e
at_same plan m e same = ap (λ (test : Bool). cond test (room_of plan e) 0) (eq-eqb e.call.moment m same)

pub taken_more : (plan : PlanFields) (es : List Entry) (i m : ℕ) (d : Entry) → i < length es
    → (get_or es i d).call.moment ≡ m
    → taken_at plan m (take (i + 1) es) ≡ taken_at plan m (take i es) + room_of plan (get_or es i d)
taken_more plan es i m d within same =
    sum_by_more (room_at plan m) es i d within
    ∙ ap (λ (n : ℕ). taken_at plan m (take i es) + n) (at_same plan m (get_or es i d) same)

-- .. and none of another
at_other : (plan : PlanFields) (m : ℕ) (e : Entry) → e.call.moment ≢ m → room_at plan m e ≡ 0
at_other plan m e other = ap (λ (test : Bool). cond test (room_of plan e) 0) (ne_eqb e.call.moment m other)

taken_same : (plan : PlanFields) (es : List Entry) (i m : ℕ) (d : Entry) → i < length es
    → (get_or es i d).call.moment ≢ m → taken_at plan m (take (i + 1) es) ≡ taken_at plan m (take i es)
taken_same plan es i m d within other =
    let more = sum_by_more (room_at plan m) es i d within in
    let none = at_other plan m (get_or es i d) other in
    omega (arith, more, none)

rooms_more : (plan : PlanFields) (es : List Entry) (i m : ℕ) (d : Entry) → i < length es
    → (get_or es i d).call.moment ≡ m → m < moments_of plan.version
    → set (rooms_of plan (take i es)) m (taken_at plan m (take i es) + room_of plan (get_or es i d))
    ≡ rooms_of plan (take (i + 1) es)
rooms_more plan es i m d within same day =
    let new = taken_at plan m (take i es) + room_of plan (get_or es i d) in
    fill_by_all (λ (k : ℕ). taken_at plan k (take (i + 1) es)) (set (rooms_of plan (take i es)) m new)
    (moments_of plan.version) 0
    (length-set (rooms_of plan (take i es)) m new ∙ length-rooms plan (take i es))
    (λ k below. elim (cases_eq k m) [
      | inl here ↦
          ap (λ (x : ℕ). get_or (set (rooms_of plan (take i es)) m new) x 0) here
          ∙ get_or-set_same (rooms_of plan (take i es)) m new 0
          (let l = length-rooms plan (take i es) in omega (arith, l, day))
          ∙ sym (taken_more plan es i m d within same)
          ∙ ap (λ (x : ℕ). taken_at plan x (take (i + 1) es)) (sym here)
      | inr other ↦
          get_or-set_other (rooms_of plan (take i es)) m k new 0 other
          ∙ room_read plan (take i es) k 0 below
          ∙ sym (taken_same plan es i k d within (λ e. other (sym e ∙ same)))
    ])

-- the moment of entry i
pub moment_read : (es : List Entry) (i : ℕ) (d : Entry) → i < length es → moment_at es i ≡ (get_or es i d).call.moment
moment_read [] i d within = absurd (omega (arith, within))
moment_read (e ∷ es) zero d within = refl
moment_read (e ∷ es) (suc i) d within = moment_read es i d (omega (arith, within))

-- the rooms with that of one entry more
pub rooms_on : (plan : PlanFields) (es : List Entry) (i : ℕ) (d : Entry) → i < length es
    → (get_or es i d).call.moment < moments_of plan.version
    → with_room plan (get_or es i d) (rooms_of plan (take i es)) ≡ rooms_of plan (take (i + 1) es)
rooms_on plan es i d within day =
    let m = (get_or es i d).call.moment in
    ap (λ (n : ℕ). set (rooms_of plan (take i es)) m (n + room_of plan (get_or es i d)))
    (room_read plan (take i es) m 0 day)
    ∙ rooms_more plan es i m d within refl day

-- what is taken before an entry of its moment
pub offset_read : (plan : PlanFields) (es : List Entry) (i : ℕ) (d : Entry) → i < length es
    → (get_or es i d).call.moment < moments_of plan.version
    → get_or (rooms_of plan (take i es)) (get_or es i d).call.moment 0 ≡ offset_of plan es i
offset_read plan es i d within day =
    room_read plan (take i es) (get_or es i d).call.moment 0 day
    ∙ ap (λ (m : ℕ). taken_at plan m (take i es)) (sym (moment_read es i d within))

-- ---- bounds

few_before : (plan : PlanFields) (es : List Entry) (i m : ℕ) → length es < 2 ^ 32
    → taken_at plan m (take i es) < 2 ^ 40
few_before plan es i m few =
    let most = taken_few plan m (take i es) in
    let long = length-take i es in
    omega (arith, most, long, few)

-- there is a room for each moment, and it stays below a bound
pub rooms_reach : (plan : PlanFields) (es : List Entry) (i m : ℕ) (rooms : List ℕ) → m < moments_of plan.version
    → rooms ≡ rooms_of plan (take i es) → m < length rooms
rooms_reach plan es i m rooms day are =
    let long = length-rooms plan (take i es) in
    let same : length rooms ≡ length (rooms_of plan (take i es)) = ap length are in
    omega (arith, long, same, day)

pub rooms_fit : (plan : PlanFields) (es : List Entry) (i m : ℕ) (rooms : List ℕ) → m < moments_of plan.version
    → rooms ≡ rooms_of plan (take i es) → length es < 2 ^ 32 → get_or rooms m 0 < 2 ^ 40
rooms_fit plan es i m rooms day are few =
    let most = few_before plan es i m few in
    let read = room_read plan (take i es) m 0 day in
    let same : get_or rooms m 0 ≡ get_or (rooms_of plan (take i es)) m 0 =
    ap (λ (xs : List ℕ). get_or xs m 0) are in
    omega (arith, most, read, same)

pub rooms_few : (plan : PlanFields) (es : List Entry) → length es < 2 ^ 32
    → All (λ room. room < 2 ^ 40) (rooms_of plan es)
rooms_few plan es few =
    All-from_get_or (λ (room : ℕ). room < 2 ^ 40) (rooms_of plan es) 0
    (λ m within.
    let long = length-rooms plan es in
    let read = room_read plan es m 0 (omega (arith, within, long)) in
    let most = taken_few plan m es in
    omega (arith, read, most, few))

pub offsets_few : (plan : PlanFields) (es : List Entry) → length es < 2 ^ 32
    → All (λ offset. offset < 2 ^ 40) (offsets_of plan es)
offsets_few plan es few =
    All-from_get_or (λ (offset : ℕ). offset < 2 ^ 40) (offsets_of plan es) 0
    (λ i within.
    let long = length-map-range_with_len (offset_of plan es) 0 (length es) in
    let read = get_or-map-range_with_len (offset_of plan es) 0 (length es) i i 0 (omega (arith, within, long))
    (omega arith) in
    let most = few_before plan es i (moment_at es i) few in
    omega (arith, read, most))

pub ruleset room_rules = (room_read, length-rooms, rooms_none, moment_read, map-range_with_len_more)
