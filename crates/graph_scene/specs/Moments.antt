-- How far to the right the entries of a journal stand: by their moments, and within a moment by their order.
use Rattle.std.specs.Prelude.{ℕ, ◌≡◌, ◌+◌, ◌-◌, ◌*◌, ◌/◌, ◌^◌, ◌<◌, ◌==◌, Bool, true, false, ◌||◌, List, [], ◌∷◌, All}
use Rattle.std.specs.Prelude.{Option, Some, None, is_some, length, map, max, min, slice_index, slice_index_or}
use Rattle.std.specs.Prelude.{slice_set, take, if◌then◌else◌}
use Rattle.std.specs.List.{range_with_len, sum_by}
use Rattle.line_law.specs.declared.call.Entry.{Entry}
use Rattle.line_law.specs.Known.{moments_of}
use Rattle.line_plan.specs.Plans.{PlanFields}
use Rattle.graph_scene.specs.declared.deeds.TrainDeed.{TrainDeed}
use Rattle.graph_scene.specs.Deeds.{deed_of}
use Rattle.graph_scene.specs.Turns.{turn_of}
use Rattle.graph_scene.specs.Words.{train_name, words_of}

-- an entry of a box of the line, at a moment of a day
abbrev pub IsOf : PlanFields → Entry → Type 0
IsOf plan e = (e.box_no < length plan.boxes) × (e.call.moment < moments_of plan.version)

-- entries of the boxes of the line, each at a moment of a day
abbrev pub AreOf : PlanFields → List Entry → Type 0
AreOf plan es = All (IsOf plan) es

-- entry i of a journal is this one
pub record IsEntry (es : List Entry) (i : ℕ) (e : Entry) : Type 0 where
  pub there : i < length es
  pub is : slice_index_or es i e ≡ e

-- ---- moments

-- the moments of entries, in the order of these
abbrev pub moments : List Entry → List ℕ
moments es = map (λ e. e.call.moment) es

-- the moment of entry i
abbrev pub moment_at : List Entry → ℕ → ℕ
moment_at es i = slice_index (moments es) i

-- how many moments ten minutes have
abbrev pub ten_minutes : ℕ → ℕ
ten_minutes version = if version == 1 then 10 else 600

-- the earliest of these moments and one more
abbrev pub earliest : ℕ → List ℕ → ℕ
earliest moment [] = moment
earliest moment (other ∷ others) = earliest (min moment other) others

-- the latest
abbrev pub latest : ℕ → List ℕ → ℕ
latest moment [] = moment
latest moment (other ∷ others) = latest (max moment other) others

-- a graph begins at the full ten minutes at or before the earliest moment of its journal ..
abbrev pub beginning_of : PlanFields → List Entry → ℕ
beginning_of plan es =
    earliest (moments_of plan.version - 1) (moments es) / ten_minutes plan.version * ten_minutes plan.version

-- .. and ends at the full ten minutes after the latest
abbrev pub end_of : PlanFields → List Entry → ℕ
end_of plan es = (latest 0 (moments es) / ten_minutes plan.version + 1) * ten_minutes plan.version

-- ---- the room of entries

-- the room that a mark takes with so many letters beside it, of which 24 at most are given room
abbrev pub room_for : ℕ → ℕ
room_for letters = if letters == 0 then 8 else 14 + 6 * min letters 24

-- the room that a train's deed takes, or else the turn of an instrument; what isn't shown takes none
abbrev pub room_by : PlanFields → Option TrainDeed → Bool → ℕ
room_by plan (Some its) turns = room_for (length (words_of (train_name plan its.train) its.deed))
room_by plan None true = room_for 0
room_by plan None false = 0

-- the room that an entry takes
abbrev pub room_of : PlanFields → Entry → ℕ
room_of plan e = room_by plan (deed_of plan 0 e) (is_some (turn_of e))

-- an entry that is shown: a train does something, or an instrument is turned
abbrev pub is_shown : PlanFields → Entry → Bool
is_shown plan e = is_some (deed_of plan 0 e) || is_some (turn_of e)

-- the room that it takes of a moment: none of another than its own
abbrev pub room_at : PlanFields → ℕ → Entry → ℕ
room_at plan moment e = if e.call.moment == moment then room_of plan e else 0

-- the room that these entries take of a moment
abbrev pub taken_at : PlanFields → ℕ → List Entry → ℕ
taken_at plan moment es = sum_by (room_at plan moment) es

-- the room that they take of each moment of a day
abbrev pub rooms_of : PlanFields → List Entry → List ℕ
rooms_of plan es = map (λ moment. taken_at plan moment es) (range_with_len 0 (moments_of plan.version))

-- these rooms with that of an entry more
abbrev pub with_room : PlanFields → Entry → List ℕ → List ℕ
with_room plan e rooms = slice_set rooms e.call.moment (slice_index rooms e.call.moment + room_of plan e)

-- the room that the entries before entry i take of its moment
abbrev pub offset_of : PlanFields → List Entry → ℕ → ℕ
offset_of plan es i = taken_at plan (moment_at es i) (take i es)

abbrev pub offsets_of : PlanFields → List Entry → List ℕ
offsets_of plan es = map (offset_of plan es) (range_with_len 0 (length es))

-- ---- places

-- the least width of a moment: of a minute, or of a second
abbrev pub least_width : ℕ → ℕ
least_width version = if version == 1 then 24 else 1

-- a moment is as wide as the entries that are shown at it need
abbrev pub width_for : ℕ → ℕ → ℕ
width_for version room = max (least_width version) room

-- where a moment begins, from the beginning of the day, by the room that is taken of each
abbrev pub start_by : ℕ → List ℕ → ℕ → ℕ
start_by version rooms moment = sum_by (width_for version) (take moment rooms)

-- where each moment of a day begins, and where the day ends
abbrev pub starts_by : ℕ → List ℕ → List ℕ
starts_by version rooms = map (start_by version rooms) (range_with_len 0 (length rooms + 1))

-- how far to the right entries of these moments stand that have these offsets, in a graph that begins at a moment: each
-- within its moment, behind the entries before it that are shown there
abbrev pub places_by : List ℕ → List ℕ → ℕ → List ℕ → List ℕ
places_by starts [] beginning its_moments = []
places_by starts (offset ∷ offsets) beginning [] = []
places_by starts (offset ∷ offsets) beginning (moment ∷ its_moments) =
    (slice_index starts moment - slice_index starts beginning + offset)
    ∷ places_by starts offsets beginning its_moments

-- where each moment of a day begins in the graph of a journal
abbrev pub starts_of : PlanFields → List Entry → List ℕ
starts_of plan es = starts_by plan.version (rooms_of plan es)

-- how far to the right the entries of a journal stand
abbrev pub places_of : PlanFields → List Entry → List ℕ
places_of plan es = places_by (starts_of plan es) (offsets_of plan es) (beginning_of plan es) (moments es)

-- how far to the right entry i stands
abbrev pub place_of : PlanFields → List Entry → ℕ → ℕ
place_of plan es i = slice_index (places_of plan es) i

-- ---- the axis

-- how far to the right the entries of a journal stand: the moments at which its graph begins and ends, where each
-- moment of a day begins, and the place of each entry
pub record AxisFields : Type 0 where
  pub beginning : ℕ
  pub ending : ℕ
  pub starts : List ℕ
  pub places : List ℕ

-- a graph is of a day, and no wider than numbers reach
pub record IsNarrow (axis : AxisFields) : Type 0 where
  pub beginning : axis.beginning < 2 ^ 20
  pub ending : axis.ending < 2 ^ 20
  pub starts : All (λ start. start < 2 ^ 60) axis.starts
  pub places : All (λ place. place < 2 ^ 61) axis.places

-- the axis of a journal
abbrev pub axis_of : PlanFields → List Entry → AxisFields
axis_of plan es =
    record {
      beginning = beginning_of plan es;
      ending = end_of plan es;
      starts = starts_of plan es;
      places = places_of plan es;
    }

-- where a moment begins, from the graph's left end
abbrev pub start_at : AxisFields → ℕ → ℕ
start_at axis moment = slice_index axis.starts moment - slice_index axis.starts axis.beginning
