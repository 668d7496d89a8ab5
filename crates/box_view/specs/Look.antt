-- A box as its man sees it.
use Rattle.std.specs.Prelude.{ℕ, ◌+◌, Bool, true, false, List, [], ◌∷◌, ◌++◌, Option, Some, None, codes, decimal}
use Rattle.std.specs.Prelude.{if◌then◌else◌, nat_lt, slice_get, slice_index_or}
use Rattle.std.specs.List.{flat_map}
use Rattle.block_words.specs.Ways.{opposite}
use Rattle.block_words.specs.declared.Position.{Position}
use Rattle.block_words.specs.declared.Way.{Way}
use Rattle.block_words.specs.declared.Way.TheVariants.{Up, Down}
use Rattle.block_words.specs.declared.WelwynState.{WelwynState}
use Rattle.block_words.specs.declared.WelwynState.TheVariants as welwyn
use Rattle.line_plan.specs.Frames.{BoxFields, kind_word, signal_of}
use Rattle.line_plan.specs.Plans.{PlanFields, box_name}
use Rattle.line_plan.specs.Sections.{next_box}
use Rattle.line_plan.specs.Ways.{way_word}
use Rattle.line_plan.specs.declared.frame.Kind.{Kind}
use Rattle.line_plan.specs.declared.frame.Lever.{Lever}
use Rattle.line_plan.specs.declared.signal.Signal.{Signal}
use Rattle.line_plan.specs.declared.signal.To.{To}
use Rattle.line_plan.specs.declared.signal.To.TheVariants as ends
use Rattle.line_law.specs.declared.link.Link.TheVariants.{In, Out}
use Rattle.line_law.specs.declared.state.BoxState.{BoxState}
use Rattle.line_law.specs.declared.state.Control.{Control}
use Rattle.line_law.specs.declared.state.Control.TheVariants.{Absolute, Permissive}
use Rattle.line_law.specs.declared.state.Incoming.{Incoming}
use Rattle.line_law.specs.declared.state.Passage.{Passage}
use Rattle.line_law.specs.Known.{is_code_no, knows_berth, knows_outgoing, knows_side}
use Rattle.line_law.specs.Law.{box_plan_of}
use Rattle.line_law.specs.LeverEnds.{is_off, is_pulled}
use Rattle.line_law.specs.Links.{pair_no}
use Rattle.line_law.specs.States.{LineState, box_at, pair_at}
use Rattle.line_law.specs.Ways.{of_way}
use Rattle.reply_sentences.specs.Names.{position_name}
use Rattle.script_text.specs.Moments.{hundred_hours, moment_text}
use Rattle.script_text.specs.Names.{code_no_text, train_text}
use Rattle.box_view.specs.Meanings.{meaning_text}
use Rattle.box_view.specs.Moves.{is_moved, may_text, move_entry, move_of}

-- ---- levers

-- the name of a place, by its number
abbrev pub place_name : List (List ℕ) → ℕ → List ℕ
place_name names place = slice_index_or names place []

-- a signal that leads from a place to another
abbrev pub leading_text : List ℕ → List ℕ → List ℕ
leading_text from to = codes "signal from " ++ from ++ codes " to " ++ to

-- a starter
abbrev pub starter_text : List ℕ → Way → List ℕ
starter_text from way = codes "starter of the " ++ way_word way ++ codes " line from " ++ from

-- a signal that leads off the line
abbrev pub last_text : List ℕ → List ℕ
last_text from = codes "signal from " ++ from ++ codes " off the line"

-- what a signal or starter is
abbrev pub signal_text : List (List ℕ) → ℕ → To → List ℕ
signal_text names from (ends.Place to) = leading_text (place_name names from) (place_name names to)
signal_text names from (ends.Section way) = starter_text (place_name names from) way
signal_text names from ends.Away = last_text (place_name names from)

-- what a lever works: its signal or starter, or what it is by its kind
abbrev pub works_text : List (List ℕ) → Kind → Option Signal → List ℕ
works_text names kind (Some signal) = signal_text names signal.from signal.to
works_text names kind None = kind_word kind

-- at which end a lever stands
abbrev pub end_word : Bool → List ℕ
end_word true = codes ", reversed"
end_word false = codes ", normal"

-- how an arm stands
abbrev pub arm_word : Bool → List ℕ
arm_word true = codes ", arm off"
arm_word false = codes ", arm on"

-- how the arm stands of a lever that works one
abbrev pub arm_text : Option Signal → Bool → List ℕ
arm_text None off = []
arm_text (Some signal) off = arm_word off

-- the line of a lever that works this signal, if any
abbrev pub lever_line : List (List ℕ) → BoxState → Lever → Option Signal → List ℕ
lever_line names here lever signal =
    codes "lever " ++ decimal lever.number ++ codes ": " ++ works_text names lever.kind signal
    ++ end_word (is_pulled here.ends lever.number) ++ arm_text signal (is_off here.off lever.number) ++ 10 ∷ []

-- the lines of these levers
abbrev pub lever_lines : BoxFields → BoxState → List Lever → List ℕ
lever_lines box_plan here levers =
    flat_map (λ lever. lever_line box_plan.places here lever (signal_of box_plan lever.number)) levers

-- ---- places

-- what stands at a place
abbrev pub standing_text : PlanFields → Option ℕ → List ℕ
standing_text plan None = codes "clear"
standing_text plan (Some train) = codes "train " ++ train_text plan train

-- the line of a place
abbrev pub place_line : PlanFields → List ℕ → Option ℕ → List ℕ
place_line plan name there = codes "place " ++ name ++ codes ": " ++ standing_text plan there ++ 10 ∷ []

-- the lines of the places from this number on, with what stands there
abbrev pub place_lines : PlanFields → List (List ℕ) → ℕ → List (Option ℕ) → List ℕ
place_lines plan names at [] = []
place_lines plan names at (there ∷ rest) =
    place_line plan (place_name names at) there ++ place_lines plan names (at + 1) rest

-- ---- bells

-- a code with its meaning; the plan has every code that is rung
abbrev pub code_text : PlanFields → ℕ → List ℕ
code_text plan code =
    if is_code_no plan code then code_no_text plan.codes code ++ codes ", " ++ meaning_text plan code
    else codes "an unknown code"

-- the code that stands unheard on a bell, if one does
abbrev pub unheard_text : PlanFields → Option ℕ → List ℕ
unheard_text plan None = codes "silent"
unheard_text plan (Some code) = code_text plan code

-- what stands unheard on the bell from a side
abbrev pub unheard_from : LineState → ℕ → Way → Option ℕ
unheard_from state b side = (of_way (pair_at state (pair_no b (In (opposite side)))).bells (opposite side)).unheard

-- the line of the bell from a side, where there is a neighbour
abbrev pub bell_line : PlanFields → LineState → ℕ → Way → List ℕ
bell_line plan state b side =
    if knows_side plan b side
    then codes "bell from " ++ box_name plan (next_box b side) ++ codes ": "
    ++ unheard_text plan (unheard_from state b side) ++ 10 ∷ []
    else []

-- ---- a line that comes in

-- how far Welwyn control has come
abbrev pub welwyn_word : WelwynState → List ℕ
welwyn_word welwyn.Ready = codes "ready"
welwyn_word welwyn.Given = codes "given"
welwyn_word welwyn.Berthed = codes "berthed"

-- how Welwyn control stands, behind what the instrument shows
abbrev pub welwyn_text : WelwynState → List ℕ
welwyn_text state = codes ", Welwyn control " ++ welwyn_word state

-- how many trains are out on a permissive line
abbrev pub permit_text : ℕ → List ℕ
permit_text out = codes ", trains out: " ++ decimal out

-- what holds the commutator back
abbrev pub control_text : Control → List ℕ
control_text (Absolute state) = welwyn_text state
control_text (Permissive out) = permit_text out

-- from this moment on the release may come
abbrev pub release_from : ℕ → ℕ → List ℕ
release_from version ready = codes ", release from " ++ moment_text version ready

-- from when on a winding lets the release come; such a moment has two digits for the hours
abbrev pub release_text : ℕ → ℕ → List ℕ
release_text version ready =
    if nat_lt ready (hundred_hours version) then release_from version ready else codes ", winding"

-- the same where there is a winding
abbrev pub winding_text : ℕ → Option ℕ → List ℕ
winding_text version None = []
winding_text version (Some ready) = release_text version ready

-- the first train of the plain line: it comes, or a portion of it is left there
abbrev pub coming_word : Option ℕ → List ℕ
coming_word None = codes "  approaching: train "
coming_word (Some train) = codes "  left in the section: a portion of train "

-- the line of the train that comes, where one comes
abbrev pub coming_text : PlanFields → Option ℕ → Option Passage → List ℕ
coming_text plan portion None = []
coming_text plan portion (Some passage) = coming_word portion ++ train_text plan passage.train ++ 10 ∷ []

-- the first train on the plain line of a line that comes in
abbrev pub first_coming : LineState → ℕ → Way → Option Passage
first_coming state b way = slice_get (of_way (pair_at state (pair_no b (In way))).lines way) 0

-- what the box has of a line that comes in
abbrev pub incoming_text : PlanFields → Incoming → List ℕ
incoming_text plan incoming =
    position_name incoming.position ++ control_text incoming.control ++ winding_text plan.version incoming.ready_at

-- the line of a line that comes in from a box of this name
abbrev pub incoming_line : PlanFields → Way → List ℕ → Incoming → List ℕ
incoming_line plan way name incoming =
    way_word way ++ codes " line from " ++ name ++ codes ": " ++ incoming_text plan incoming ++ 10 ∷ []

-- the same and the line of the first train on its plain line, if there is one
abbrev pub coming_in : PlanFields → Way → List ℕ → Incoming → Option Passage → List ℕ
coming_in plan way name incoming first =
    incoming_line plan way name incoming ++ coming_text plan incoming.portion first

-- the lines of a line that comes in, where it has a berth here
abbrev pub incoming_lines : PlanFields → LineState → ℕ → Way → List ℕ
incoming_lines plan state b way =
    if knows_berth plan b way
    then coming_in plan way (box_name plan (next_box b (opposite way))) (of_way (box_at state b).incoming way)
    (first_coming state b way)
    else []

-- ---- a line that leaves

-- what the repeater shows of a line that leaves
abbrev pub repeated : LineState → ℕ → Way → Position
repeated state b way = (of_way (pair_at state (pair_no b (Out way))).blocks way).position

-- the line of a line that leaves to a box of this name
abbrev pub repeater_text : Way → List ℕ → Position → List ℕ
repeater_text way name position =
    way_word way ++ codes " line to " ++ name ++ codes ": the repeater shows " ++ position_name position ++ 10 ∷ []

-- the same where there is a neighbour
abbrev pub outgoing_line : PlanFields → LineState → ℕ → Way → List ℕ
outgoing_line plan state b way =
    if knows_outgoing plan b way
    then repeater_text way (box_name plan (next_box b way)) (repeated state b way)
    else []

-- ---- what may be moved

-- the line of a lever that may be moved at this moment; nothing of another
abbrev pub move_line : PlanFields → LineState → ℕ → ℕ → Lever → List ℕ
move_line plan state b moment lever =
    if is_moved (move_entry plan state b moment lever.number).reply
    then may_text lever.number (move_of (box_at state b) lever.number) ++ 10 ∷ []
    else []

-- the lines of those of these levers that may be moved
abbrev pub move_lines : PlanFields → LineState → ℕ → ℕ → List Lever → List ℕ
move_lines plan state b moment levers = flat_map (λ lever. move_line plan state b moment lever) levers

-- ---- the box

-- for each side or way the up one first
abbrev pub both_ways : (Way → List ℕ) → List ℕ
both_ways text = text Up ++ text Down

-- the levers and places of a box
abbrev pub frame_text : PlanFields → BoxFields → BoxState → List ℕ
frame_text plan box_plan here =
    lever_lines box_plan here box_plan.levers ++ place_lines plan box_plan.places 0 here.places

-- its bells and lines
abbrev pub block_text : PlanFields → LineState → ℕ → List ℕ
block_text plan state b =
    both_ways (bell_line plan state b) ++ both_ways (incoming_lines plan state b)
    ++ both_ways (outgoing_line plan state b)

-- Box b as its man sees it: its levers, its places, its bells, the lines that come in, the lines that leave, and what
-- may be moved at this moment.
unfoldable pub look_text : PlanFields → LineState → ℕ → ℕ → List ℕ
look_text plan state b moment =
    codes "box " ++ box_name plan b ++ 10 ∷ []
    ++ frame_text plan (box_plan_of plan b) (box_at state b) ++ block_text plan state b
    ++ move_lines plan state b moment (box_plan_of plan b).levers
