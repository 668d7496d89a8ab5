-- What the lines of a box make of the box.
use Rattle.std.specs.Prelude.{ℕ, Bool, true, false, not, nat_le, nat_lt, ◌==◌, List, [], ◌∷◌, ◌++◌, length, drop}
use Rattle.std.specs.Prelude.{Option, Some, None, is_some, Result, Ok, Err, if◌then◌else◌, bytes_eq, codes}
use Rattle.std.specs.List.{list_any, join_with_byte}
use Rattle.rail_text.specs.Gives.{◌>>=◌}
use Rattle.rail_text.specs.Words.{number_in}
use Rattle.rail_text.specs.declared.cause.Cause.{Cause}
use Rattle.rail_text.specs.declared.cause.Cause.TheVariants as causes
use Rattle.block_words.specs.declared.Way.{Way}
use Rattle.locking_table.specs.Reading.{row_of}
use Rattle.locking_table.specs.Sound.{all_differ, levers_of}
use Rattle.locking_table.specs.declared.fault.RowFault.{RowFault}
use Rattle.locking_table.specs.declared.fault.RowFault.TheVariants as row_faults
use Rattle.locking_table.specs.declared.row.Row.{Row}
use Rattle.locking_table.specs.Places.{most_levers}
use Rattle.line_plan.specs.Limits.{most_places, most_rows}
use Rattle.line_plan.specs.declared.frame.Kind.{Kind}
use Rattle.line_plan.specs.declared.frame.Kind.TheVariants as kinds
use Rattle.line_plan.specs.declared.signal.To.TheVariants as ends
use Rattle.line_plan.specs.declared.signal.Signal.{Signal}
use Rattle.line_plan.specs.declared.berth.Berth.{Berth}
use Rattle.line_plan.specs.Frames.{BoxFields, kind_of, is_working, frame_size, signal_of, starter_of, places_of}
use Rattle.line_plan.specs.Frames.{is_entered, berth_of, berth_places, homes_of}
use Rattle.line_plan.specs.Berths.{with_berth, cleared, permitted}
use Rattle.line_plan.specs.Ways.{comes_in, leaves}
use Rattle.plan_draft.specs.LineWords.{counted, word, new_name, number_in_names, places_onto, way_in, kind_in, end_in}
use Rattle.plan_draft.specs.LineWords.{lever_in, working_in}

-- ---- places and levers

-- a name that a place may have: any but `away`, and none that another place of the box has
unfoldable pub new_place : BoxFields → List ℕ → Result (List ℕ) Cause
new_place box_plan text = if bytes_eq text (codes "away") then Err causes.BadName else new_name box_plan.places text

-- place NAME
unfoldable pub place_onto : BoxFields → List (List ℕ) → Result BoxFields Cause
place_onto box_plan words = do
  two ← counted 2 2 words
  name ← new_place box_plan (word 1 words)
  if nat_le most_places (length box_plan.places) then Err causes.TooMany
      else Ok (record box_plan { places = box_plan.places ++ name ∷ [] })

-- a number above that of the box's last lever
unfoldable pub next_number : BoxFields → List ℕ → Result ℕ Cause
next_number box_plan text =
    number_in 1 most_levers text >>=
    (λ number. if nat_lt (frame_size box_plan.levers) number then Ok number else Err causes.LeverOrder)

-- lever L KIND
unfoldable pub lever_onto : BoxFields → List (List ℕ) → Result BoxFields Cause
lever_onto box_plan words = do
  three ← counted 3 3 words
  number ← next_number box_plan (word 1 words)
  kind ← kind_in (word 2 words)
  Ok (record box_plan { levers = box_plan.levers ++ record { number = number; kind = kind } ∷ [] })

-- ---- signals and starters

-- a lever that works a stop signal
abbrev pub is_signal_kind : Kind → Bool
is_signal_kind kinds.Signal = true
is_signal_kind kinds.Points = false
is_signal_kind kinds.Lock = false
is_signal_kind kinds.Distant = false
is_signal_kind kinds.Spare = false

-- the lever of a signal or starter: a signal lever that has none so far
unfoldable pub arm_in : BoxFields → List ℕ → Result ℕ Cause
arm_in box_plan text =
    lever_in box_plan text >>= (λ lever.
    if not (is_signal_kind lever.kind) then Err causes.WrongKind
    else if is_some (signal_of box_plan lever.number) then Err causes.Taken
    else Ok lever.number)

-- the places behind the word `over`, where the line goes on
unfoldable pub over_in : BoxFields → List (List ℕ) → Result (List ℕ) Cause
over_in box_plan words =
    if length words == 4 then Ok []
    else if bytes_eq (word 4 words) (codes "over") then places_onto box_plan.places [] (drop 5 words)
    else Err causes.UnknownWord

-- four words, or six to nine
abbrev pub counted_over : List (List ℕ) → Result (Unit {0}) Cause
counted_over words = if length words == 4 then Ok tt else counted 6 9 words

-- a signal more, whose places all differ
unfoldable pub with_signal : BoxFields → Signal → Result BoxFields Cause
with_signal box_plan signal =
    if all_differ (places_of signal) then Ok (record box_plan { signals = box_plan.signals ++ signal ∷ [] })
    else Err causes.SamePlace

-- signal L FROM TO over P..
unfoldable pub signal_onto : BoxFields → List (List ℕ) → Result BoxFields Cause
signal_onto box_plan words = do
  several ← counted_over words
  lever ← arm_in box_plan (word 1 words)
  from ← number_in_names box_plan.places (word 2 words)
  to ← end_in box_plan.places (word 3 words)
  over ← over_in box_plan words
  with_signal box_plan (record { lever = lever; from = from; over = over; to = to })

-- an outgoing line of box b of so many, to a neighbour, without a starter so far
unfoldable pub leaving_in : ℕ → ℕ → BoxFields → List ℕ → Result Way Cause
leaving_in boxes b box_plan text =
    way_in text >>= (λ way.
    if not (leaves boxes b way) then Err causes.NoLine
    else if is_some (starter_of box_plan way) then Err causes.Taken
    else Ok way)

-- starter WAY L FROM over P..
unfoldable pub starter_onto : ℕ → ℕ → BoxFields → List (List ℕ) → Result BoxFields Cause
starter_onto boxes b box_plan words = do
  several ← counted_over words
  way ← leaving_in boxes b box_plan (word 1 words)
  lever ← arm_in box_plan (word 2 words)
  from ← number_in_names box_plan.places (word 3 words)
  over ← over_in box_plan words
  with_signal box_plan (record { lever = lever; from = from; over = over; to = ends.Section way })

-- ---- berths

-- an incoming line of box b of so many, from a neighbour, without a berth so far
unfoldable pub coming_in : ℕ → ℕ → BoxFields → List ℕ → Result Way Cause
coming_in boxes b box_plan text =
    way_in text >>= (λ way.
    if not (comes_in boxes b way) then Err causes.NoLine
    else if is_some (berth_of box_plan way) then Err causes.Taken
    else Ok way)

-- a place that can be a berth: no berth already, no signal leads into it or over it, and some signal begins there; with
-- its homes
unfoldable pub berth_at : BoxFields → ℕ → Result Berth Cause
berth_at box_plan place =
    if list_any (λ berth. berth == place) (berth_places box_plan) then Err causes.Taken
    else if is_entered box_plan.signals place then Err causes.BerthEntered
    else if length (homes_of box_plan place) == 0 then Err causes.NoHome
    else Ok (record { place = place; homes = homes_of box_plan place; clearing = []; permissive = None })

-- berth WAY PLACE
unfoldable pub berth_onto : ℕ → ℕ → BoxFields → List (List ℕ) → Result BoxFields Cause
berth_onto boxes b box_plan words = do
  three ← counted 3 3 words
  way ← coming_in boxes b box_plan (word 1 words)
  place ← number_in_names box_plan.places (word 2 words)
  berth ← berth_at box_plan place
  Ok (with_berth box_plan way berth)

-- the berth, if there is one
abbrev pub has_berth : {A : Type 0} → Option A → Result A Cause
has_berth None = Err causes.NoBerth
has_berth (Some berth) = Ok berth

-- clearing places that differ from each other and from the berth
unfoldable pub clearing_in : BoxFields → Berth → List (List ℕ) → Result (List ℕ) Cause
clearing_in box_plan berth words =
    places_onto box_plan.places [] (drop 2 words) >>=
    (λ places. if all_differ (berth.place ∷ places) then Ok places else Err causes.SamePlace)

-- clear WAY P..: a berth of that line, without clearing places so far
unfoldable pub clear_onto : BoxFields → List (List ℕ) → Result BoxFields Cause
clear_onto box_plan words = do
  several ← counted 3 10 words
  way ← way_in (word 1 words)
  berth ← has_berth (berth_of box_plan way)
  places ← if length berth.clearing == 0 then clearing_in box_plan berth words else Err causes.Taken
  Ok (cleared box_plan way places)

-- permissive WAY N: a berth of that line, which is not permissive so far
unfoldable pub permissive_onto : BoxFields → List (List ℕ) → Result BoxFields Cause
permissive_onto box_plan words = do
  three ← counted 3 3 words
  way ← way_in (word 1 words)
  berth ← has_berth (berth_of box_plan way)
  n ← if is_some berth.permissive then Err causes.Taken else number_in 1 3 (word 2 words)
  Ok (permitted box_plan way n)

-- ---- track circuits and rows

-- a working lever without track circuits so far
unfoldable pub track_in : BoxFields → List ℕ → Result ℕ Cause
track_in box_plan text =
    working_in box_plan text >>=
    (λ lever. if list_any (λ track. track.lever == lever) box_plan.tracks then Err causes.Taken else Ok lever)

-- track L P..
unfoldable pub track_onto : BoxFields → List (List ℕ) → Result BoxFields Cause
track_onto box_plan words = do
  several ← counted 3 10 words
  lever ← track_in box_plan (word 1 words)
  places ← places_onto box_plan.places [] (drop 2 words)
  if all_differ places then Ok
      (record box_plan { tracks = box_plan.tracks ++ record { lever = lever; places = places } ∷ [] })
      else Err causes.SamePlace

-- why a text spells no row
abbrev pub row_cause : RowFault → Cause
row_cause (row_faults.BadRow number) = causes.BadRow
row_cause row_faults.SameLever = causes.SameLever

-- the row that a text spells
abbrev pub spelled_row : Result Row RowFault → Result Row Cause
spelled_row (Ok row) = Ok row
spelled_row (Err fault) = Err (row_cause fault)

-- the lever is of the box, and no spare one
abbrev pub worked : Option Kind → Result (Unit {0}) Cause
worked None = Err causes.UnknownLever
worked (Some kind) = if is_working (Some kind) then Ok tt else Err causes.WrongKind

-- each of these levers is so
unfoldable pub all_worked : BoxFields → List ℕ → Result (Unit {0}) Cause
all_worked box_plan [] = Ok tt
all_worked box_plan (lever ∷ levers) = worked (kind_of box_plan lever) >>= (λ one. all_worked box_plan levers)

-- a row more, whose levers are so
abbrev pub with_row : BoxFields → Row → Result BoxFields Cause
with_row box_plan row = do
  all ← all_worked box_plan (levers_of row)
  if nat_le most_rows (length box_plan.rows) then Err causes.TooMany
      else Ok (record box_plan { rows = box_plan.rows ++ row ∷ [] })

-- row, and behind it the text of a row
unfoldable pub row_onto : BoxFields → List (List ℕ) → Result BoxFields Cause
row_onto box_plan words = do
  row ← spelled_row (row_of (join_with_byte 32 (drop 1 words)))
  with_row box_plan row
