-- As many things are seen of a line in each of its states.
use Rattle.std.proofs.Common.{◌≡◌, ℕ, ◌+◌, ◌-◌, ◌<◌, ◌≤◌, ◌++◌, Bool, List, [], ◌∷◌, Option, Some, None, zero, suc, length, refl, sym, ◌∙◌, arith}
use Rattle.std.proofs.lemmas.List.{length-append}
use Rattle.block_words.specs.declared.Position.{Position}
use Rattle.block_words.specs.declared.Way.TheVariants.{Up, Down}
use Rattle.locking_table.specs.declared.places.End.{End}
use Rattle.line_plan.specs.Frames.{BoxFields}
use Rattle.line_plan.specs.Plans.{PlanFields}
use Rattle.line_plan.specs.Sections.{advance_of, section_berth}
use Rattle.line_plan.specs.declared.berth.Berth.{Berth}
use Rattle.line_plan.specs.declared.frame.Lever.{Lever}
use Rattle.line_plan.specs.declared.section.Section.{Section}
use Rattle.line_plan.specs.declared.signal.Signal.{Signal}
use Rattle.line_law.specs.declared.state.BoxState.{BoxState}
use Rattle.line_law.specs.Lines.{IsLineOf, PlainState, pair_in, plain_line_of}
use Rattle.line_law.specs.States.{LineState, box_at}
use Rattle.line_law.specs.Ways.{of_way}
use Rattle.line_scene.specs.declared.diagram.Diagram.{Diagram}
use Rattle.line_scene.specs.declared.shown.Shown.{Shown}
use Rattle.line_scene.specs.declared.walk.Spot.{Spot}
use Rattle.line_scene.specs.Boxes.{arms_shown, box_shown, boxes_shown, diagram_at, levers_shown, places_shown}
use Rattle.line_scene.specs.Diagrams.{diagrams_of}
use Rattle.line_scene.specs.Scenes.{things_of}
use Rattle.line_scene.specs.Sections.{bell_shown, instrument_shown, section_shown, sections_shown, trains_shown}

-- ---- a box

places_count : (b : ℕ) (spots : List Spot) (at : ℕ) (places : List (Option ℕ))
    → length (places_shown b spots at places) ≡ length places
places_count b spots at [] = refl
places_count b spots at (there ∷ rest) = let more = places_count b spots (at + 1) rest in omega (arith, more)

arms_count : (b : ℕ) (diagram : Diagram) (off : List Bool) (at : ℕ) (signals : List Signal)
    → length (arms_shown b diagram off at signals) ≡ length signals
arms_count b diagram off at [] = refl
arms_count b diagram off at (signal ∷ signals) =
    let more = arms_count b diagram off (at + 1) signals in omega (arith, more)

levers_count : (b : ℕ) (ends : List End) (levers : List Lever)
    → length (levers_shown b ends levers) ≡ length levers
levers_count b ends [] = refl
levers_count b ends (lever ∷ levers) = let more = levers_count b ends levers in omega (arith, more)

three_count : (xs ys zs : List Shown) → length (xs ++ ys ++ zs) ≡ length xs + length ys + length zs
three_count xs ys zs =
    let all = length-append (xs ++ ys) zs in
    let both = length-append xs ys in
    omega (arith, all, both)

box_count : (b : ℕ) (box_plan : BoxFields) (diagram : Diagram) (here : BoxState)
    → length (box_shown b box_plan diagram here)
    ≡ length here.places + length box_plan.signals + length box_plan.levers
unfolding box_shown
box_count b box_plan diagram here =
    let all = three_count (places_shown b diagram.spots 0 here.places)
    (arms_shown b diagram here.off 0 box_plan.signals) (levers_shown b here.ends box_plan.levers) in
    let places = places_count b diagram.spots 0 here.places in
    let arms = arms_count b diagram here.off 0 box_plan.signals in
    let levers = levers_count b here.ends box_plan.levers in
    omega (arith, all, places, arms, levers)

boxes_count : (one other : LineState) (diagrams : List Diagram) (b : ℕ) (boxes : List BoxFields)
    → ((i : ℕ) → b ≤ i → i < b + length boxes
    → length (box_at one i).places ≡ length (box_at other i).places)
    → length (boxes_shown one diagrams b boxes) ≡ length (boxes_shown other diagrams b boxes)
boxes_count one other diagrams b [] each = refl
boxes_count one other diagrams b (box_plan ∷ boxes) each =
    let first = box_count b box_plan (diagram_at diagrams b) (box_at one b) in
    let second = box_count b box_plan (diagram_at diagrams b) (box_at other b) in
    let here = each b (omega arith) (omega arith) in
    let rest = boxes_count one other diagrams (b + 1) boxes
    (λ i low high. each i (omega (arith, low)) (omega (arith, high))) in
    let all = length-append (box_shown b box_plan (diagram_at diagrams b) (box_at one b))
    (boxes_shown one diagrams (b + 1) boxes) in
    let others = length-append (box_shown b box_plan (diagram_at diagrams b) (box_at other b))
    (boxes_shown other diagrams (b + 1) boxes) in
    omega (arith, first, second, here, rest, all, others)

-- ---- a section

pair_count : (xs ys zs : List Shown) → length (xs ++ (ys ++ zs)) ≡ length xs + length ys + length zs
pair_count xs ys zs =
    let all = length-append xs (ys ++ zs) in
    let both = length-append ys zs in
    omega (arith, all, both)

instrument_count : (berth : Option Berth) (section : Section) (p q : Position)
    → length (instrument_shown berth section p) ≡ length (instrument_shown berth section q)
instrument_count None section p q = refl
instrument_count (Some berth) section p q = refl

section_count : (plan : PlanFields) (one other : LineState) (section : Section)
    → length (section_shown plan one section) ≡ length (section_shown plan other section)
unfolding section_shown
section_count plan one other section =
    let same = instrument_count (section_berth plan section) section
    (of_way (pair_in one section).blocks section.way).position
    (of_way (pair_in other section).blocks section.way).position in
    let all = length-append (instrument_shown (section_berth plan section) section
    (of_way (pair_in one section).blocks section.way).position)
    (bell_shown one section ∷ trains_shown section
    (of_way (box_at one (advance_of section)).incoming section.way).portion (plain_line_of one section)) in
    let others = length-append (instrument_shown (section_berth plan section) section
    (of_way (pair_in other section).blocks section.way).position)
    (bell_shown other section ∷ trains_shown section
    (of_way (box_at other (advance_of section)).incoming section.way).portion (plain_line_of other section)) in
    omega (arith, same, all, others)

sections_count : (plan : PlanFields) (one other : LineState) (pairs : ℕ)
    → length (sections_shown plan one pairs) ≡ length (sections_shown plan other pairs)
sections_count plan one other zero = refl
sections_count plan one other (suc pair) =
    let down : Section = record { rear = pair; way = Down } in
    let up : Section = record { rear = pair + 1; way = Up } in
    let before = sections_count plan one other pair in
    let first = section_count plan one other down in
    let second = section_count plan one other up in
    let all = pair_count (sections_shown plan one pair) (section_shown plan one down) (section_shown plan one up) in
    let others = pair_count (sections_shown plan other pair) (section_shown plan other down)
    (section_shown plan other up) in
    omega (arith, before, first, second, all, others)

-- ---- a line

pub as_many : (plan : PlanFields) (one other : PlainState) → IsLineOf plan one → IsLineOf plan other
    → length (things_of plan one.line) ≡ length (things_of plan other.line)
as_many plan one other is was =
    let boxes = boxes_count one.line other.line (diagrams_of plan.boxes) 0 plan.boxes
    (λ i low high.
    let here = (is.boxes i (omega (arith, high))).shape.frame.places in
    let there = (was.boxes i (omega (arith, high))).shape.frame.places in
    here ∙ sym there) in
    let sections = sections_count plan one.line other.line (length plan.boxes - 1) in
    let all = length-append (boxes_shown one.line (diagrams_of plan.boxes) 0 plan.boxes)
    (sections_shown plan one.line (length plan.boxes - 1)) in
    let others = length-append (boxes_shown other.line (diagrams_of plan.boxes) 0 plan.boxes)
    (sections_shown plan other.line (length plan.boxes - 1)) in
    omega (arith, boxes, sections, all, others)
