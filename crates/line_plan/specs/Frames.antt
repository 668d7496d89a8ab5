-- What a box has, and what belongs together in it.
use Rattle.std.specs.Prelude.{ℕ, Bool, true, false, not, ◌&&◌, ◌||◌, ◌==◌, nat_lt, List, [], ◌∷◌, ◌++◌, map, filter}
use Rattle.std.specs.Prelude.{Option, Some, None, is_some, option_map, codes}
use Rattle.std.specs.List.{list_any, find}
use Rattle.block_words.specs.declared.Way.{Way}
use Rattle.block_words.specs.declared.Way.TheVariants.{Up, Down}
use Rattle.locking_table.specs.declared.row.Row.{Row}
use Rattle.line_plan.specs.declared.frame.Kind.{Kind}
use Rattle.line_plan.specs.declared.frame.Kind.TheVariants as kinds
use Rattle.line_plan.specs.declared.frame.Lever.{Lever}
use Rattle.line_plan.specs.declared.signal.To.{To}
use Rattle.line_plan.specs.declared.signal.To.TheVariants as ends
use Rattle.line_plan.specs.declared.signal.Signal.{Signal}
use Rattle.line_plan.specs.declared.signal.TrackLock.{TrackLock}
use Rattle.line_plan.specs.declared.berth.Berth.{Berth}

-- the fields of a box, as contracts see them
pub record BoxFields : Type 0 where
  pub name : List ℕ
  pub places : List (List ℕ)
  pub levers : List Lever
  pub signals : List Signal
  pub berth_up : Option Berth
  pub berth_down : Option Berth
  pub tracks : List TrackLock
  pub rows : List Row

-- ---- levers

-- the lever with this number
abbrev pub lever_of : BoxFields → ℕ → Option Lever
lever_of box_plan number = find (λ lever. lever.number == number) box_plan.levers

-- the word of a lever's kind
abbrev pub kind_word : Kind → List ℕ
kind_word kinds.Signal = codes "signal"
kind_word kinds.Points = codes "points"
kind_word kinds.Lock = codes "lock"
kind_word kinds.Distant = codes "distant"
kind_word kinds.Spare = codes "spare"

-- the kind of a lever, where the frame has it
abbrev pub kind_of : BoxFields → ℕ → Option Kind
kind_of box_plan number = option_map (λ lever. lever.kind) (lever_of box_plan number)

-- a lever that is there and no spare one
abbrev pub is_working : Option Kind → Bool
is_working None = false
is_working (Some kinds.Signal) = true
is_working (Some kinds.Points) = true
is_working (Some kinds.Lock) = true
is_working (Some kinds.Distant) = true
is_working (Some kinds.Spare) = false

-- the last of these numbers, or the one before them
abbrev pub last_number : ℕ → List Lever → ℕ
last_number before [] = before
last_number before (lever ∷ levers) = last_number lever.number levers

-- the number of the last lever, which is the greatest: a frame has room for so many
abbrev pub frame_size : List Lever → ℕ
frame_size levers = last_number 0 levers

-- each number is above the one before it
abbrev pub are_rising : ℕ → List Lever → Bool
are_rising before [] = true
are_rising before (lever ∷ levers) = nat_lt before lever.number && are_rising lever.number levers

-- ---- signals and starters

-- the signal or starter that a lever works
abbrev pub signal_of : BoxFields → ℕ → Option Signal
signal_of box_plan lever = find (λ signal. signal.lever == lever) box_plan.signals

-- the place, if any, to which a signal leads
abbrev pub end_places : To → List ℕ
end_places (ends.Place place) = place ∷ []
end_places (ends.Section way) = []
end_places ends.Away = []

-- the places that a signal's line names: where it begins, where it runs over, and where it ends
abbrev pub places_of : Signal → List ℕ
places_of signal = signal.from ∷ signal.over ++ end_places signal.to

-- the outgoing line into whose section a starter leads
abbrev pub way_to : To → Option Way
way_to (ends.Place place) = None
way_to (ends.Section way) = Some way
way_to ends.Away = None

abbrev pub leads_to : Signal → Option Way
leads_to signal = way_to signal.to

-- two ways are the same
abbrev pub same_way : Way → Way → Bool
same_way Up Up = true
same_way Up Down = false
same_way Down Up = false
same_way Down Down = true

-- the way, if any, is this one
abbrev pub is_way : Way → Option Way → Bool
is_way way None = false
is_way way (Some other) = same_way way other

-- the starter of that line
abbrev pub is_starter : Way → Signal → Bool
is_starter way signal = is_way way (leads_to signal)

-- the starter of an outgoing line
abbrev pub starter_of : BoxFields → Way → Option Signal
starter_of box_plan way = find (is_starter way) box_plan.signals

-- signals stand before starters
abbrev pub starters_last : List Signal → Bool
starters_last [] = true
starters_last (signal ∷ signals) =
    (not (is_some (leads_to signal)) || not (list_any (λ later. not (is_some (leads_to later))) signals))
    && starters_last signals

-- the places into and over which a signal leads
abbrev pub entered_by : Signal → List ℕ
entered_by signal = signal.over ++ end_places signal.to

-- some signal or starter leads into the place or over it
abbrev pub is_entered : List Signal → ℕ → Bool
is_entered signals place = list_any (λ signal. list_any (λ entered. entered == place) (entered_by signal)) signals

-- ---- berths and track circuits

-- the signal, if there is one, begins at the place
abbrev pub begins : ℕ → Option Signal → Bool
begins place None = false
begins place (Some signal) = signal.from == place

-- the lever's signal or starter begins at the place
abbrev pub begins_at : BoxFields → ℕ → Lever → Bool
begins_at box_plan place lever = begins place (signal_of box_plan lever.number)

-- the homes of a place: all levers whose signal or starter begins there, in lever order
abbrev pub homes_of : BoxFields → ℕ → List ℕ
homes_of box_plan place = map (λ lever. lever.number) (filter (begins_at box_plan place) box_plan.levers)

-- the berth of an incoming line
abbrev pub berth_of : BoxFields → Way → Option Berth
berth_of box_plan Up = box_plan.berth_up
berth_of box_plan Down = box_plan.berth_down

-- the place of a berth, if there is one
abbrev pub place_of : Option Berth → List ℕ
place_of None = []
place_of (Some berth) = berth.place ∷ []

-- the places that are berths
abbrev pub berth_places : BoxFields → List ℕ
berth_places box_plan = place_of box_plan.berth_up ++ place_of box_plan.berth_down

-- the places of a line of track circuits, if there is one
abbrev pub locked_places : Option TrackLock → List ℕ
locked_places None = []
locked_places (Some track) = track.places

-- the places whose occupation locks a lever
abbrev pub track_of : BoxFields → ℕ → List ℕ
track_of box_plan lever = locked_places (find (λ track. track.lever == lever) box_plan.tracks)
