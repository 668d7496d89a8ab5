-- The one printed spelling of a plan.
use Rattle.std.specs.Prelude.{ℕ, ◌-◌, List, [], ◌∷◌, ◌++◌, length, map, drop, slice_index_or, Option, None, Some, codes}
use Rattle.std.specs.Prelude.{decimal}
use Rattle.std.specs.List.{flat_map}
use Rattle.bell_codes.specs.Codes.{code_text}
use Rattle.block_words.specs.declared.Way.{Way}
use Rattle.block_words.specs.declared.Way.TheVariants.{Up, Down}
use Rattle.locking_table.specs.Printing.{row_words}
use Rattle.locking_table.specs.Words.{joined}
use Rattle.locking_table.specs.declared.row.Row.{Row}
use Rattle.rail_text.specs.Lines.{printed_line}
use Rattle.line_plan.specs.Frames.{BoxFields, kind_word}
use Rattle.line_plan.specs.Ways.{way_word}
use Rattle.line_plan.specs.Plans.{PlanFields, names_of, names_of_classes, box_at}
use Rattle.line_plan.specs.declared.berth.Berth.{Berth}
use Rattle.line_plan.specs.declared.frame.Lever.{Lever}
use Rattle.line_plan.specs.declared.plan.Class.{Class}
use Rattle.line_plan.specs.declared.plan.TrainPlan.{TrainPlan}
use Rattle.line_plan.specs.declared.signal.Signal.{Signal}
use Rattle.line_plan.specs.declared.signal.To.{To}
use Rattle.line_plan.specs.declared.signal.To.TheVariants as ends
use Rattle.line_plan.specs.declared.signal.TrackLock.{TrackLock}

-- ---- words

-- the name with this number
abbrev pub name_word : List (List ℕ) → ℕ → List ℕ
name_word names number = slice_index_or names number []

-- the names of places
abbrev pub place_words : List (List ℕ) → List ℕ → List (List ℕ)
place_words names places = map (name_word names) places

-- the places over which a signal runs, if there are any
abbrev pub over_words : List (List ℕ) → List ℕ → List (List ℕ)
over_words names [] = []
over_words names (place ∷ places) = codes "over" ∷ place_words names (place ∷ places)

-- ---- the words of the lines of a box

abbrev pub place_line : List ℕ → List (List ℕ)
place_line name = codes "place" ∷ name ∷ []

abbrev pub lever_line : Lever → List (List ℕ)
lever_line lever = codes "lever" ∷ decimal lever.number ∷ kind_word lever.kind ∷ []

-- a signal to a place or off the line; a starter into the section of a way
abbrev pub arm_words : List (List ℕ) → Signal → To → List (List ℕ)
arm_words names signal (ends.Place place) =
    codes "signal" ∷ decimal signal.lever ∷ name_word names signal.from ∷ name_word names place ∷ []
arm_words names signal ends.Away =
    codes "signal" ∷ decimal signal.lever ∷ name_word names signal.from ∷ codes "away" ∷ []
arm_words names signal (ends.Section way) =
    codes "starter" ∷ way_word way ∷ decimal signal.lever ∷ name_word names signal.from ∷ []

abbrev pub signal_line : List (List ℕ) → Signal → List (List ℕ)
signal_line names signal = arm_words names signal signal.to ++ over_words names signal.over

-- the berth of a line, if there is one
abbrev pub berth_lines : List (List ℕ) → Way → Option Berth → List (List (List ℕ))
berth_lines names way None = []
berth_lines names way (Some berth) = (codes "berth" ∷ way_word way ∷ name_word names berth.place ∷ []) ∷ []

-- its clearing places, if there are any
abbrev pub clearing_lines : List (List ℕ) → Way → List ℕ → List (List (List ℕ))
clearing_lines names way [] = []
clearing_lines names way (place ∷ places) = (codes "clear" ∷ way_word way ∷ place_words names (place ∷ places)) ∷ []

abbrev pub clear_lines : List (List ℕ) → Way → Option Berth → List (List (List ℕ))
clear_lines names way None = []
clear_lines names way (Some berth) = clearing_lines names way berth.clearing

-- how many trains the line is permissive of, if it is
abbrev pub most_lines : Way → Option ℕ → List (List (List ℕ))
most_lines way None = []
most_lines way (Some n) = (codes "permissive" ∷ way_word way ∷ decimal n ∷ []) ∷ []

abbrev pub permissive_lines : Way → Option Berth → List (List (List ℕ))
permissive_lines way None = []
permissive_lines way (Some berth) = most_lines way berth.permissive

abbrev pub track_line : List (List ℕ) → TrackLock → List (List ℕ)
track_line names track = codes "track" ∷ decimal track.lever ∷ place_words names track.places

abbrev pub row_line : Row → List (List ℕ)
row_line row = codes "row" ∷ row_words row

-- the lines of a box up to those of its starters
abbrev pub front_lines : BoxFields → List (List (List ℕ))
front_lines box_plan =
    (codes "box" ∷ box_plan.name ∷ []) ∷ map place_line box_plan.places ++ map lever_line box_plan.levers
    ++ map (signal_line box_plan.places) box_plan.signals

-- its lines behind those of its berths
abbrev pub back_lines : BoxFields → List (List (List ℕ))
back_lines box_plan = map (track_line box_plan.places) box_plan.tracks ++ map row_line box_plan.rows

-- the lines of its berths, up before down
abbrev pub way_lines : BoxFields → List (List (List ℕ))
way_lines box_plan =
    berth_lines box_plan.places Up box_plan.berth_up ++ berth_lines box_plan.places Down box_plan.berth_down
    ++ clear_lines box_plan.places Up box_plan.berth_up ++ clear_lines box_plan.places Down box_plan.berth_down
    ++ permissive_lines Up box_plan.berth_up ++ permissive_lines Down box_plan.berth_down

-- the lines of a box
unfoldable pub box_lines : BoxFields → List (List (List ℕ))
box_lines box_plan = front_lines box_plan ++ way_lines box_plan ++ back_lines box_plan

-- ---- the words of the lines of a plan

-- the text of the code with this number
abbrev pub code_word : List (List ℕ) → ℕ → List ℕ
code_word table number = code_text (slice_index_or table (number - 1) [])

-- a class with its code
abbrev pub class_line : List (List ℕ) → Class → List (List ℕ)
class_line table class_plan = codes "class" ∷ class_plan.name ∷ code_word table class_plan.code ∷ []

-- a train with its class, its box and its place
abbrev pub train_line : PlanFields → TrainPlan → List (List ℕ)
train_line plan train =
    codes "train" ∷ train.name ∷ name_word (names_of_classes plan.classes) train.class_no
    ∷ name_word (names_of plan.boxes) train.box_no
    ∷ name_word (box_at plan.boxes train.box_no).places train.place ∷ []

-- the first four lines
abbrev pub head_lines : PlanFields → List (List (List ℕ))
head_lines plan =
    (codes "plan" ∷ decimal plan.version ∷ []) ∷ (codes "boxes" ∷ decimal (length plan.boxes) ∷ [])
    ∷ (codes "delay" ∷ decimal plan.delay ∷ [])
    ∷ (codes "looks" ∷ decimal plan.looks ∷ []) ∷ []

-- the lines of a plan: of classes those beyond the first four
unfoldable pub plan_lines : PlanFields → List (List (List ℕ))
plan_lines plan =
    head_lines plan ++ map (class_line plan.codes) (drop 4 plan.classes) ++ flat_map box_lines plan.boxes
    ++ map (train_line plan) plan.trains ++ (codes "end" ∷ []) ∷ []

-- ---- texts

-- the text of a line by its words, with single spaces between them
abbrev pub line_text : List (List ℕ) → List ℕ
line_text words = joined words

-- a line as it is printed
abbrev pub printed_words : List (List ℕ) → List ℕ
printed_words words = printed_line (line_text words)

-- lines as they are printed
abbrev pub printed : List (List (List ℕ)) → List ℕ
printed lines = flat_map printed_words lines

-- a plan as it is printed
unfoldable pub plan_text : PlanFields → List ℕ
plan_text plan = printed (plan_lines plan)
