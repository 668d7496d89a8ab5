-- What stands at a box, as objects for other programs.
use Rattle.std.specs.Prelude.{ℕ, Bool, true, false, List, [], ◌∷◌, ◌++◌, Option, Some, None, codes, option_map}
use Rattle.std.specs.Prelude.{if◌then◌else◌}
use Rattle.serde_json.specs.Data.{Data, Members, array, boolean, member, no_members, number, object, string, unsigned}
use Rattle.serde_json.specs.View.{items_of}
use Rattle.json_objects.specs.Members.{member_if}
use Rattle.block_words.specs.declared.Position.{Position}
use Rattle.block_words.specs.declared.Way.{Way}
use Rattle.line_plan.specs.Plans.{PlanFields, box_name}
use Rattle.script_text.specs.Names.{place_text, position_text, train_text}
use Rattle.look_records.specs.Names.{arm_word, code_words, end_word}
use Rattle.look_records.specs.Things.{rear_of}
use Rattle.look_records.specs.declared.thing.BoxThing.{BoxThing}
use Rattle.look_records.specs.declared.thing.LineTrains.{LineTrains}
use Rattle.look_records.specs.declared.thing.ThingKind.{ThingKind}
use Rattle.look_records.specs.declared.thing.ThingKind.TheVariants as kinds

-- ---- a thing

-- a lever: how its arm stands, where it has one, at which end it stands, and its number
abbrev pub lever_data : ℕ → Bool → Option Bool → Data
lever_data n reversed arm =
    object (member_if (codes "arm") (option_map string (option_map arm_word arm))
    (member (codes "end") (string (end_word reversed)) (member (codes "lever") (number (unsigned n)) no_members)))

-- a place of box b, and the train on it, if there is one
abbrev pub place_data : PlanFields → ℕ → ℕ → Option ℕ → Data
place_data plan b place train =
    object (member (codes "place") (string (place_text plan b place))
    (member_if (codes "train") (option_map string (option_map (λ t. train_text plan t) train)) no_members))

-- the bell from the box in the rear, and the code that stands unheard on it, if one does
abbrev pub bell_data : PlanFields → ℕ → Way → Option ℕ → Data
bell_data plan b way unheard =
    object (member (codes "from") (string (box_name plan (rear_of b way)))
    (member_if (codes "unheard") (option_map string (option_map (λ code. code_words plan code) unheard)) no_members))

-- the instrument of the line from the box in the rear, and what it shows
abbrev pub block_data : PlanFields → ℕ → Way → Position → Data
block_data plan b way position =
    object (member (codes "from") (string (box_name plan (rear_of b way)))
    (member (codes "position") (string (position_text position)) no_members))

-- the name of a train, if there is one
abbrev pub train_items : PlanFields → Option ℕ → List Data
train_items plan None = []
train_items plan (Some t) = string (train_text plan t) ∷ []

-- the names of the trains of a plain line, the first first
abbrev pub line_items : PlanFields → LineTrains → List Data
line_items plan trains =
    ((train_items plan trains.first ++ train_items plan trains.second) ++ train_items plan trains.third)
    ++ train_items plan trains.fourth

-- the plain line from the box in the rear: whether its first train is a portion that was left, and its trains
abbrev pub line_data : PlanFields → ℕ → Way → Bool → List Data → Data
line_data plan b way portion trains =
    object (member (codes "from") (string (box_name plan (rear_of b way)))
    (member (codes "portion") (boolean portion) (member (codes "trains") (array (items_of trains)) no_members)))

-- a thing of box b
abbrev pub thing_data : PlanFields → ℕ → BoxThing → Data
thing_data plan b (BoxThing.Lever n reversed arm) = lever_data n reversed arm
thing_data plan b (BoxThing.Place place train) = place_data plan b place train
thing_data plan b (BoxThing.Bell way unheard) = bell_data plan b way unheard
thing_data plan b (BoxThing.Block way position) = block_data plan b way position
thing_data plan b (BoxThing.Line way trains portion) = line_data plan b way portion (line_items plan trains)

-- ---- a box

-- a thing is a lever; a place; a bell; an instrument; a plain line
abbrev pub is_lever : BoxThing → Bool
is_lever (BoxThing.Lever n reversed arm) = true
is_lever thing = false

abbrev pub is_place : BoxThing → Bool
is_place (BoxThing.Place place train) = true
is_place thing = false

abbrev pub is_bell : BoxThing → Bool
is_bell (BoxThing.Bell way unheard) = true
is_bell thing = false

abbrev pub is_block : BoxThing → Bool
is_block (BoxThing.Block way position) = true
is_block thing = false

abbrev pub is_line : BoxThing → Bool
is_line (BoxThing.Line way trains portion) = true
is_line thing = false

-- a thing is of this kind
abbrev pub is_kind : ThingKind → BoxThing → Bool
is_kind kinds.Lever thing = is_lever thing
is_kind kinds.Place thing = is_place thing
is_kind kinds.Bell thing = is_bell thing
is_kind kinds.Block thing = is_block thing
is_kind kinds.Line thing = is_line thing

-- those of these things of box b that are of a kind, in order
abbrev pub kind_items : PlanFields → ℕ → ThingKind → List BoxThing → List Data
kind_items plan b kind [] = []
kind_items plan b kind (thing ∷ things) =
    if is_kind kind thing then thing_data plan b thing ∷ kind_items plan b kind things
    else kind_items plan b kind things

-- the same as a value
abbrev pub kind_data : PlanFields → ℕ → ThingKind → List BoxThing → Data
kind_data plan b kind things = array (items_of (kind_items plan b kind things))

-- the levers, the plain lines and the places among these things
abbrev pub plant_members : PlanFields → ℕ → List BoxThing → Members
plant_members plan b things =
    member (codes "levers") (kind_data plan b kinds.Lever things)
    (member (codes "lines") (kind_data plan b kinds.Line things)
    (member (codes "places") (kind_data plan b kinds.Place things) no_members))

-- these things of box b, each in the list of its kind
unfoldable pub look_data : PlanFields → ℕ → List BoxThing → Data
look_data plan b things =
    object (member (codes "bells") (kind_data plan b kinds.Bell things)
    (member (codes "blocks") (kind_data plan b kinds.Block things)
    (member (codes "box") (string (box_name plan b)) (plant_members plan b things))))
