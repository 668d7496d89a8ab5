-- What a plan has, and what every plan meets.
use Rattle.std.specs.Prelude.{◌≡◌, ◌≢◌, ℕ, ◌+◌, ◌-◌, ◌<◌, ◌≤◌, Bool, true, false, ◌&&◌, ◌==◌, nat_lt, List, [], ◌∷◌}
use Rattle.std.specs.Prelude.{length, map, filter, take, None, Some, IfSome, All, IsTrue, slice_index_or, bytes_eq}
use Rattle.std.specs.Prelude.{codes, if◌then◌else◌}
use Rattle.std.specs.List.{list_all, list_any}
use Rattle.rail_text.specs.Names.{are_new}
use Rattle.rail_text.specs.Words.{is_name}
use Rattle.bell_codes.specs.Table.{IsCodeTable, opening_codes}
use Rattle.block_words.specs.declared.Way.{Way}
use Rattle.block_words.specs.declared.Way.TheVariants.{Up, Down}
use Rattle.locking_table.specs.Sound.{IsRow, all_differ, levers_of}
use Rattle.locking_table.specs.declared.row.Row.{Row}
use Rattle.locking_table.specs.Places.{most_levers}
use Rattle.line_plan.specs.Limits.{most_boxes, most_places, most_rows, most_plan_trains, most_delay, most_looks}
use Rattle.line_plan.specs.Ways.{comes_in, leaves}
use Rattle.line_plan.specs.declared.plan.Class.{Class}
use Rattle.line_plan.specs.declared.plan.TrainPlan.{TrainPlan}
use Rattle.line_plan.specs.declared.frame.Kind.TheVariants as kinds
use Rattle.line_plan.specs.declared.signal.Signal.{Signal}
use Rattle.line_plan.specs.declared.signal.TrackLock.{TrackLock}
use Rattle.line_plan.specs.declared.berth.Berth.{Berth}
use Rattle.line_plan.specs.Frames.{BoxFields, kind_of, is_working, frame_size, are_rising, places_of, is_starter}
use Rattle.line_plan.specs.Frames.{leads_to, starters_last, homes_of, is_entered, berth_places}

-- the fields of a plan, as contracts see them
pub record PlanFields : Type 0 where
  pub version : ℕ
  pub delay : ℕ
  pub looks : ℕ
  pub codes : List (List ℕ)
  pub classes : List Class
  pub boxes : List BoxFields
  pub trains : List TrainPlan

-- the boxes' names, in order
abbrev pub names_of : List BoxFields → List (List ℕ)
names_of boxes = map (λ box_plan. box_plan.name) boxes

-- the name of box b
abbrev pub box_name : PlanFields → ℕ → List ℕ
box_name plan b = slice_index_or (names_of plan.boxes) b []

-- a box with nothing
abbrev pub no_box : BoxFields
no_box = record {
  name = [];
  places = [];
  levers = [];
  signals = [];
  berth_up = None;
  berth_down = None;
  tracks = [];
  rows = [];
}

-- box b; a number off the line has nothing
abbrev pub box_at : List BoxFields → ℕ → BoxFields
box_at boxes b = slice_index_or boxes b no_box

-- no train
abbrev pub no_train : TrainPlan
no_train = record { name = []; class_no = 0; box_no = 0; place = 0 }

-- the train with this number: trains are numbered from 1
abbrev pub train_at : List TrainPlan → ℕ → TrainPlan
train_at trains t = slice_index_or trains (t - 1) no_train

-- the plan has a train with this number
abbrev pub is_train : List TrainPlan → ℕ → Bool
is_train trains t = nat_lt 0 t && nat_lt (t - 1) (length trains)

-- ---- the conditions of a box

-- a place of the box
abbrev pub IsPlace : BoxFields → ℕ → Type 0
IsPlace box_plan place = place < length box_plan.places

-- a lever of the box that is no spare one
abbrev pub IsWorking : BoxFields → ℕ → Type 0
IsWorking box_plan lever = IsTrue (is_working (kind_of box_plan lever))

-- where a starter leads, that line leaves box b of so many to a neighbour
abbrev pub IsWay : ℕ → ℕ → Signal → Type 0
IsWay boxes b signal = IfSome (leads_to signal) (λ way. IsTrue (leaves boxes b way))

-- a signal or starter of box b: its lever is a signal lever; it runs over four places at most; all places that it names
-- are the box's, and differ
pub record IsSignal (boxes b : ℕ) (box_plan : BoxFields) (signal : Signal) : Type 0 where
  pub lever : kind_of box_plan signal.lever ≡ Some kinds.Signal
  pub places : All (IsPlace box_plan) (places_of signal)
  pub few : length signal.over ≤ 4
  pub differ : IsTrue (all_differ (places_of signal))
  pub way : IsWay boxes b signal

-- The berth of a line at box b: the line comes in from a neighbour. The berth is a place that no signal or starter
-- leads into or over; its homes are all levers whose signal or starter begins there, at least one. It has eight
-- clearing places at most, all of the box and different from each other and from the berth.
pub record IsBerth (boxes b : ℕ) (box_plan : BoxFields) (way : Way) (berth : Berth) : Type 0 where
  pub line : IsTrue (comes_in boxes b way)
  pub place : IsPlace box_plan berth.place
  pub free : is_entered box_plan.signals berth.place ≡ false
  pub homes : berth.homes ≡ homes_of box_plan berth.place
  pub home : berth.homes ≢ []
  pub clearing : All (IsPlace box_plan) berth.clearing
  pub few : length berth.clearing ≤ 8
  pub differ : IsTrue (all_differ (berth.place ∷ berth.clearing))
  pub permissive : IfSome berth.permissive (λ n. (1 ≤ n) × (n ≤ 3))

-- the track circuits that lock a lever: the lever is no spare one; they are one to eight places of the box, all
-- different
pub record IsTrackLock (box_plan : BoxFields) (track : TrackLock) : Type 0 where
  pub lever : IsWorking box_plan track.lever
  pub some : 1 ≤ length track.places
  pub few : length track.places ≤ 8
  pub places : All (IsPlace box_plan) track.places
  pub differ : IsTrue (all_differ track.places)

-- a row of the box's locking table: some text spells it, and its levers are of the box and no spare ones
pub record IsBoxRow (box_plan : BoxFields) (row : Row) : Type 0 where
  pub spelled : IsRow row
  pub levers : All (IsWorking box_plan) (levers_of row)

-- what box b of so many meets
pub record IsBox (boxes b : ℕ) (box_plan : BoxFields) : Type 0 where
  pub named : list_all is_name box_plan.places ≡ true
  pub distinct : are_new [] box_plan.places ≡ true
  pub away : list_any (bytes_eq (codes "away")) box_plan.places ≡ false
  pub few_places : length box_plan.places ≤ most_places
  pub rising : IsTrue (are_rising 0 box_plan.levers)
  pub frame : frame_size box_plan.levers ≤ most_levers
  pub signals : All (IsSignal boxes b box_plan) box_plan.signals
  pub one_each : IsTrue (all_differ (map (λ signal. signal.lever) box_plan.signals))
  pub starters_last : IsTrue (starters_last box_plan.signals)
  pub one_up : length (filter (is_starter Up) box_plan.signals) ≤ 1
  pub one_down : length (filter (is_starter Down) box_plan.signals) ≤ 1
  pub berth_up : IfSome box_plan.berth_up (IsBerth boxes b box_plan Up)
  pub berth_down : IfSome box_plan.berth_down (IsBerth boxes b box_plan Down)
  pub berths_differ : IsTrue (all_differ (berth_places box_plan))
  pub tracks : All (IsTrackLock box_plan) box_plan.tracks
  pub one_track : IsTrue (all_differ (map (λ track. track.lever) box_plan.tracks))
  pub rows : All (IsBoxRow box_plan) box_plan.rows
  pub few_rows : length box_plan.rows ≤ most_rows

-- ---- the conditions of classes and trains

-- the first four classes of every plan
abbrev pub opening_names : List (List ℕ)
opening_names = codes "express" ∷ codes "ordinary" ∷ codes "empty" ∷ codes "light" ∷ []

-- the number of the code of class i: the first four have 2 to 5 of the opening codes, and each further one the next
-- number behind these
abbrev pub class_code : ℕ → ℕ
class_code i = if nat_lt i 4 then i + 2 else i + 7

-- the classes from number i on have their codes
abbrev pub have_codes : ℕ → List Class → Bool
have_codes i [] = true
have_codes i (class_plan ∷ classes) = class_plan.code == class_code i && have_codes (i + 1) classes

-- the classes' names, in order
abbrev pub names_of_classes : List Class → List (List ℕ)
names_of_classes classes = map (λ class_plan. class_plan.name) classes

-- The bell codes and the classes: the opening ones first, then as many further codes as further classes, at most 190.
-- Names and codes are all different.
pub record AreClasses (codes : List (List ℕ)) (classes : List Class) : Type 0 where
  pub table : IsCodeTable codes
  pub opening : take 10 codes ≡ opening_codes
  pub first : take 4 (names_of_classes classes) ≡ opening_names
  pub each : IsTrue (have_codes 0 classes)
  pub count : length codes ≡ length classes + 6
  pub some : 4 ≤ length classes
  pub few : length classes ≤ 194
  pub named : list_all is_name (names_of_classes classes) ≡ true
  pub distinct : are_new [] (names_of_classes classes) ≡ true

-- a train: its class, its box and its place are the plan's, and the place is no berth
pub record IsTrain (classes : List Class) (boxes : List BoxFields) (train : TrainPlan) : Type 0 where
  pub class_no : train.class_no < length classes
  pub box_no : train.box_no < length boxes
  pub place : IsPlace (box_at boxes train.box_no) train.place
  pub no_berth : list_any (λ berth. berth == train.place) (berth_places (box_at boxes train.box_no)) ≡ false

-- the trains' names, in order
abbrev pub names_of_trains : List TrainPlan → List (List ℕ)
names_of_trains trains = map (λ train. train.name) trains

-- two boxes or more, as many as the version allows, with names of their own, each as a box is; two numbers in their
-- ranges; and the classes and trains
pub record IsPlan (plan : PlanFields) : Type 0 where
  pub version_low : 1 ≤ plan.version
  pub version_high : plan.version ≤ 2
  pub delay : plan.delay ≤ most_delay plan.version
  pub looks_low : 1 ≤ plan.looks
  pub looks_high : plan.looks ≤ most_looks
  pub classes : AreClasses plan.codes plan.classes
  pub fewest : 2 ≤ length plan.boxes
  pub most : length plan.boxes ≤ most_boxes plan.version
  pub named : list_all is_name (names_of plan.boxes) ≡ true
  pub distinct : are_new [] (names_of plan.boxes) ≡ true
  pub each : (b : ℕ) → b < length plan.boxes → IsBox (length plan.boxes) b (box_at plan.boxes b)
  pub trains : All (IsTrain plan.classes plan.boxes) plan.trains
  pub few_trains : length plan.trains ≤ most_plan_trains
  pub trains_named : list_all is_name (names_of_trains plan.trains) ≡ true
  pub trains_distinct : are_new [] (names_of_trains plan.trains) ≡ true
