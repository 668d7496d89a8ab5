-- What stands at a box nests few levels deep, and has no float.
use Rattle.std.proofs.Common.{◌≡◌, ℕ, ◌+◌, ◌<◌, ◌≤◌, List, [], ◌∷◌, ◌++◌, All, Bool, true, false, Option, Some}
use Rattle.std.proofs.Common.{None, length, arith, refl, option_map}
use Rattle.std.specs.Prelude.{◌||◌, codes, if◌then◌else◌}
use Rattle.std.proofs.lemmas.List.Elements.{All-append, All-head, All-push, All-tail}
use Rattle.serde_json.specs.Data.{Data, Members, array, items_depth, member, no_members}
use Rattle.serde_json.specs.View.{items_of}
use Rattle.serde_json.specs.Written.{has_float, items_have_float}
use Rattle.json_objects.specs.Texts.{ArePlain, IsPlain, most_levels}
use Rattle.json_objects.proofs.Plain.{flag_plain, member_plain, no_members_plain, number_plain, object_plain}
use Rattle.json_objects.proofs.Plain.{text_if_plain}
use Rattle.json_objects.proofs.Plain.{text_plain}
use Rattle.line_plan.specs.Frames.{BoxFields}
use Rattle.line_plan.specs.Plans.{PlanFields, box_name}
use Rattle.line_law.specs.States.{LineState}
use Rattle.look_records.specs.Changes.{PutsChanges, changes_data, look_if, looks_data, looks_from}
use Rattle.look_records.specs.Objects.{is_kind, kind_data, kind_items, line_items, look_data, plant_members}
use Rattle.look_records.specs.Objects.{thing_data, train_items}
use Rattle.look_records.specs.Things.{things_at}
use Rattle.look_records.specs.declared.thing.BoxThing.{BoxThing}
use Rattle.look_records.specs.declared.thing.LineTrains.{LineTrains}
use Rattle.look_records.specs.declared.thing.ThingKind.{ThingKind}
use Rattle.look_records.specs.declared.thing.ThingKind.TheVariants as kinds

-- ---- lists

neither : (a b : Bool) → a ≡ false → b ≡ false → (a || b) ≡ false
neither a b x y = rw x y

no_float_in : (levels : ℕ) (ds : List Data) → All (IsPlain levels) ds → items_have_float (items_of ds) ≡ false
no_float_in levels [] h = refl
no_float_in levels (d ∷ ds) h =
    neither (has_float d) (items_have_float (items_of ds)) (All-head (IsPlain levels) d ds h).no_float
    (no_float_in levels ds (All-tail (IsPlain levels) d ds h))

shallow_in : (levels : ℕ) (ds : List Data) → All (IsPlain levels) ds → items_depth (items_of ds) ≤ levels
shallow_in levels [] h = omega arith
shallow_in levels (d ∷ ds) h =
    let rest = shallow_in levels ds (All-tail (IsPlain levels) d ds h) in
    let one = All-head (IsPlain levels) d ds h in
    omega (arith, rest, one.shallow)

-- a list of plain values is plain
pub array_plain : (levels : ℕ) (ds : List Data) → All (IsPlain levels) ds → IsPlain (levels + 1) (array (items_of ds))
array_plain levels ds h =
    let shallow = shallow_in levels ds h in
    record { no_float = no_float_in levels ds h; shallow = omega (arith, shallow) }

-- no values are plain
pub none_plain : (levels : ℕ) → All (IsPlain levels) []
none_plain levels k d lt = let no : ⊥ = omega (arith, lt) in absurd no

-- one value before others
all_more : (levels : ℕ) (d : Data) (ds : List Data) → IsPlain levels d → All (IsPlain levels) ds
    → All (IsPlain levels) (d ∷ ds)
all_more levels d ds one rest =
    All-append (IsPlain levels) (d ∷ []) ds (All-push (IsPlain levels) [] d (none_plain levels) one) rest

-- ---- a box

train_items_plain : (plan : PlanFields) (train : Option ℕ) → All (IsPlain 120) (train_items plan train)
train_items_plain plan None = none_plain 120
train_items_plain plan (Some t) = all_more 120 _ [] (text_plain 120 _) (none_plain 120)

both : (ds es : List Data) → All (IsPlain 120) ds → All (IsPlain 120) es → All (IsPlain 120) (ds ++ es)
both ds es h k = All-append (IsPlain 120) ds es h k

line_items_plain : (plan : PlanFields) (trains : LineTrains) → All (IsPlain 120) (line_items plan trains)
line_items_plain plan trains =
    both _ (train_items plan trains.fourth)
    (both _ (train_items plan trains.third)
    (both _ (train_items plan trains.second) (train_items_plain plan trains.first)
    (train_items_plain plan trains.second))
    (train_items_plain plan trains.third))
    (train_items_plain plan trains.fourth)

thing_plain : (plan : PlanFields) (b : ℕ) (thing : BoxThing) → IsPlain 122 (thing_data plan b thing)
thing_plain plan b (BoxThing.Lever n reversed arm) =
    object_plain 121 _
    (text_if_plain 121 _ _ _
    (member_plain 121 _ _ _ (text_plain 121 _) (member_plain 121 _ _ _ (number_plain 121 n) (no_members_plain 121))))
thing_plain plan b (BoxThing.Place place train) =
    object_plain 121 _ (member_plain 121 _ _ _ (text_plain 121 _) (text_if_plain 121 _ _ _ (no_members_plain 121)))
thing_plain plan b (BoxThing.Bell way unheard) =
    object_plain 121 _ (member_plain 121 _ _ _ (text_plain 121 _) (text_if_plain 121 _ _ _ (no_members_plain 121)))
thing_plain plan b (BoxThing.Block way position) =
    object_plain 121 _
    (member_plain 121 _ _ _ (text_plain 121 _)
    (member_plain 121 _ _ _ (text_plain 121 _) (no_members_plain 121)))
thing_plain plan b (BoxThing.Line way trains portion) =
    object_plain 121 _
    (member_plain 121 _ _ _ (text_plain 121 _)
    (member_plain 121 _ _ _ (flag_plain 121 portion)
    (member_plain 121 _ _ _ (array_plain 120 _ (line_items_plain plan trains))
    (no_members_plain 121))))

either_plain : (test : Bool) (more rest : List Data) → All (IsPlain 122) more → All (IsPlain 122) rest
    → All (IsPlain 122) (if test then more else rest)
either_plain true more rest h k = h
either_plain false more rest h k = k

kind_items_plain : (plan : PlanFields) (b : ℕ) (kind : ThingKind) (things : List BoxThing)
    → All (IsPlain 122) (kind_items plan b kind things)
kind_items_plain plan b kind [] = none_plain 122
kind_items_plain plan b kind (thing ∷ things) =
    let rest = kind_items_plain plan b kind things in
    either_plain (is_kind kind thing) _ _ (all_more 122 _ _ (thing_plain plan b thing) rest) rest

kind_plain : (plan : PlanFields) (b : ℕ) (kind : ThingKind) (things : List BoxThing)
    → IsPlain 123 (kind_data plan b kind things)
kind_plain plan b kind things = array_plain 122 _ (kind_items_plain plan b kind things)

plant_plain : (plan : PlanFields) (b : ℕ) (things : List BoxThing) → ArePlain 123 (plant_members plan b things)
plant_plain plan b things =
    member_plain 123 (codes "levers") _ _ (kind_plain plan b kinds.Lever things)
    (member_plain 123 (codes "lines") _ _ (kind_plain plan b kinds.Line things)
    (member_plain 123 (codes "places") _ _ (kind_plain plan b kinds.Place things) (no_members_plain 123)))

-- what stands at a box
pub look_within : (plan : PlanFields) (b : ℕ) (things : List BoxThing) → IsPlain 124 (look_data plan b things)
unfolding look_data
look_within plan b things =
    object_plain 123 _
    (member_plain 123 (codes "bells") _ _ (kind_plain plan b kinds.Bell things)
    (member_plain 123 (codes "blocks") _ _ (kind_plain plan b kinds.Block things)
    (member_plain 123 (codes "box") _ _ (text_plain 123 (box_name plan b)) (plant_plain plan b things))))

-- it has a text that is read back
pub look_plain : (plan : PlanFields) (b : ℕ) (things : List BoxThing) → IsPlain most_levels (look_data plan b things)
look_plain plan b things =
    let within = look_within plan b things in
    record { no_float = within.no_float; shallow = omega (arith, within.shallow) }

-- ---- a line

-- objects of boxes under a key, before plain members
boxes_plain : (key : List ℕ) (items : List Data) (ms : Members) → All (IsPlain 124) items → ArePlain 126 ms
    → ArePlain 126 (member key (array (items_of items)) ms)
boxes_plain key items ms h rest =
    let list = array_plain 124 items h in
    member_plain 126 key _ ms (record { no_float = list.no_float; shallow = omega (arith, list.shallow) }) rest

looks_within : (plan : PlanFields) (state : LineState) (b : ℕ) (boxes : List BoxFields)
    → All (IsPlain 124) (looks_from plan state b boxes)
looks_within plan state b [] = none_plain 124
looks_within plan state b (box_plan ∷ boxes) =
    all_more 124 _ _ (look_within plan b (things_at plan state b)) (looks_within plan state (b + 1) boxes)

-- so has all that stands on a line
pub looks_plain : (plan : PlanFields) (state : LineState) → IsPlain most_levels (looks_data plan state)
looks_plain plan state =
    object_plain 126 _
    (boxes_plain _ _ _ (looks_within plan state 0 plan.boxes) (no_members_plain 126))

look_if_plain : (plan : PlanFields) (b : ℕ) (things : List BoxThing) → All (IsPlain 124) (look_if plan b things)
look_if_plain plan b [] = none_plain 124
look_if_plain plan b (thing ∷ things) = all_more 124 _ [] (look_within plan b (thing ∷ things)) (none_plain 124)

changes_within : (plan : PlanFields) (earlier now : LineState) (b : ℕ) (boxes : List BoxFields) (old new : List Data)
    → All (IsPlain 124) old → PutsChanges plan earlier now b boxes old new → All (IsPlain 124) new
changes_within plan earlier now b [] old new before h = rw h before
changes_within plan earlier now b (box_plan ∷ boxes) old new before h =
    changes_within plan earlier now (b + 1) boxes (old ++ look_if plan b h.0) new
    (All-append (IsPlain 124) old (look_if plan b h.0) before (look_if_plain plan b h.0)) h.2

-- and all that has changed on one
pub changes_plain : (plan : PlanFields) (earlier now : LineState) (count : ℕ) (items : List Data)
    → PutsChanges plan earlier now 0 plan.boxes [] items → IsPlain most_levels (changes_data items count)
changes_plain plan earlier now count items h =
    object_plain 126 _
    (boxes_plain _ items _ (changes_within plan earlier now 0 plan.boxes [] items (none_plain 124) h)
    (member_plain 126 _ _ _ (number_plain 126 count) (no_members_plain 126)))
