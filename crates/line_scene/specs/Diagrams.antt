-- The diagram of a box: where its places stand, in the order of travel, and which arms stand on one post.
use Rattle.std.specs.Prelude.{ℕ, zero, suc, ◌+◌, ◌-◌, ◌==◌, Bool, true, false, List, [], ◌∷◌, ◌++◌, Option, Some, None}
use Rattle.std.specs.Prelude.{length, map, max, min, replicate, slice_index_or, slice_set, take, if◌then◌else◌}
use Rattle.std.specs.List.{list_any}
use Rattle.line_plan.specs.Frames.{BoxFields, place_of}
use Rattle.line_plan.specs.declared.signal.Signal.{Signal}
use Rattle.line_plan.specs.declared.signal.To.{To}
use Rattle.line_plan.specs.declared.signal.To.TheVariants as ends
use Rattle.line_scene.specs.declared.diagram.Diagram.{Diagram}
use Rattle.line_scene.specs.declared.walk.Spot.{Spot}
use Rattle.line_scene.specs.declared.walk.Walk.{Walk}

-- ---- the order of travel

-- a place is drawn; what is no place of the box counts as one that is
abbrev pub is_drawn : List Bool → ℕ → Bool
is_drawn drawn place = slice_index_or drawn place true

-- the place to which a signal leads on, if that isn't drawn yet
abbrev pub leads_on : List Bool → To → Option ℕ
leads_on drawn (ends.Place place) = if is_drawn drawn place then None else Some place
leads_on drawn (ends.Section way) = None
leads_on drawn ends.Away = None

-- the same of a signal, if it stands at that place
abbrev pub goes_on : List Bool → ℕ → Signal → Option ℕ
goes_on drawn place signal = if signal.from == place then leads_on drawn signal.to else None

-- the first of two places, if there is one, else the second
abbrev pub first_of : Option ℕ → Option ℕ → Option ℕ
first_of (Some place) later = Some place
first_of None later = later

-- the place behind a place in the order of travel: the one to which the first of these signals leads on
abbrev pub place_behind : List Bool → ℕ → List Signal → Option ℕ
place_behind drawn place [] = None
place_behind drawn place (signal ∷ signals) =
    first_of (goes_on drawn place signal) (place_behind drawn place signals)

-- ---- where roads begin

-- it leads to the place
abbrev pub is_to : ℕ → To → Bool
is_to place (ends.Place to) = to == place
is_to place (ends.Section way) = false
is_to place ends.Away = false

-- a signal leads to the place
abbrev pub is_led_to : List Signal → ℕ → Bool
is_led_to signals place = list_any (λ signal. is_to place signal.to) signals

-- the places below a number to which no signal leads
abbrev pub heads_below : List Signal → ℕ → List ℕ
heads_below signals zero = []
heads_below signals (suc n) = heads_below signals n ++ (if is_led_to signals n then [] else n ∷ [])

-- all places below a number
abbrev pub places_below : ℕ → List ℕ
places_below zero = []
places_below (suc n) = places_below n ++ n ∷ []

-- where roads may begin, the likeliest first: at the berth of the down line, at that of the up line, at a place to
-- which no signal leads, at any place
abbrev pub starts_of : BoxFields → List ℕ
starts_of box_plan =
    place_of box_plan.berth_down ++ place_of box_plan.berth_up
    ++ heads_below box_plan.signals (length box_plan.places) ++ places_below (length box_plan.places)

-- the first of these starts that isn't drawn yet
abbrev pub first_start : List Bool → List ℕ → Option ℕ
first_start drawn [] = None
first_start drawn (start ∷ starts) = if is_drawn drawn start then first_start drawn starts else Some start

-- ---- the walk

-- nothing is drawn of so many places
abbrev pub walk_begun : ℕ → Walk
walk_begun places =
    record {
      spots = replicate places (record { row = 0; column = 0 });
      drawn = replicate places false;
      next = None;
      rows = 0;
      columns = 0;
    }

-- the next place begins a row where a road begins, or where the row has five places
abbrev pub begins_row : Option ℕ → ℕ → Bool
begins_row None columns = true
begins_row (Some place) columns = columns == 5

-- where the next place stands: in a new row, or in the last one
abbrev pub spot_in : Bool → ℕ → ℕ → Spot
spot_in true rows columns = record { row = rows; column = 0 }
spot_in false rows columns = record { row = rows - 1; column = columns }

-- how many rows there are then, and how many places the last one has
abbrev pub rows_with : Bool → ℕ → ℕ
rows_with true rows = rows + 1
rows_with false rows = rows

abbrev pub columns_with : Bool → ℕ → ℕ
columns_with true columns = 1
columns_with false columns = columns + 1

-- a place is drawn, and the road goes on behind it
abbrev pub with_place : List Signal → Walk → ℕ → Bool → Walk
with_place signals walk place begins =
    record {
      spots = slice_set walk.spots place (spot_in begins walk.rows walk.columns);
      drawn = slice_set walk.drawn place true;
      next = place_behind (slice_set walk.drawn place true) place signals;
      rows = rows_with begins walk.rows;
      columns = columns_with begins walk.columns;
    }

-- the same where there is a place that isn't drawn yet
abbrev pub walk_to : List Signal → Walk → Option ℕ → Walk
walk_to signals walk None = walk
walk_to signals walk (Some place) =
    if is_drawn walk.drawn place then walk else with_place signals walk place (begins_row walk.next walk.columns)

-- the place that is drawn next: the next of the road, else the first start that isn't drawn yet
abbrev pub place_to : List ℕ → List Bool → Option ℕ → Option ℕ
place_to starts drawn (Some place) = Some place
place_to starts drawn None = first_start drawn starts

abbrev pub walk_on : List ℕ → List Signal → Walk → Walk
walk_on starts signals walk = walk_to signals walk (place_to starts walk.drawn walk.next)

-- so many places are drawn, of a box that has so many
abbrev pub walk_by : List ℕ → List Signal → ℕ → ℕ → Walk
walk_by starts signals places zero = walk_begun places
walk_by starts signals places (suc count) = walk_on starts signals (walk_by starts signals places count)

-- the walk over all places of a box
abbrev pub walk_of : BoxFields → Walk
walk_of box_plan =
    walk_by (starts_of box_plan) box_plan.signals (length box_plan.places) (length box_plan.places)

-- ---- the arms on a post

-- how many of these signals stand at a place
abbrev pub arms_at : ℕ → List Signal → ℕ
arms_at place [] = 0
arms_at place (signal ∷ signals) = (if signal.from == place then 1 else 0) + arms_at place signals

-- how many arms stand above that of a signal on the same post: of the signals before it; a frame has 120 levers at most
abbrev pub rank_of : List Signal → ℕ → Signal → ℕ
rank_of signals at signal = min (arms_at signal.from (take at signals)) 120

-- the same of these signals, which have the numbers from this one on
abbrev pub ranks_from : List Signal → ℕ → List Signal → List ℕ
ranks_from signals at [] = []
ranks_from signals at (signal ∷ rest) = rank_of signals at signal ∷ ranks_from signals (at + 1) rest

-- the most arms on a post
abbrev pub most_arms : ℕ → List ℕ → ℕ
most_arms most [] = most
most_arms most (rank ∷ ranks) = most_arms (max most (rank + 1)) ranks

-- ---- the diagram

-- The diagram of a box: where each of its places stands, in the order of the places; how many rows there are; how many
-- arms stand above that of each signal, in the order of the signals; and the most arms on a post.
abbrev pub diagram_of : BoxFields → Diagram
diagram_of box_plan =
    record {
      spots = (walk_of box_plan).spots;
      rows = (walk_of box_plan).rows;
      ranks = ranks_from box_plan.signals 0 box_plan.signals;
      arms = most_arms 0 (ranks_from box_plan.signals 0 box_plan.signals);
    }

-- the diagrams of boxes, in order
abbrev pub diagrams_of : List BoxFields → List Diagram
diagrams_of boxes = map diagram_of boxes
