-- What the regulations would have the man of a box do next, where exactly one thing is due.
use Rattle.std.specs.Prelude.{ℕ, ◌==◌, ◌&&◌, not, Bool, true, false, List, [], ◌∷◌, ◌++◌, Option, Some, None, codes}
use Rattle.std.specs.Prelude.{if◌then◌else◌, is_some}
use Rattle.block_words.specs.Ways.{opposite}
use Rattle.block_words.specs.declared.Position.{Position}
use Rattle.block_words.specs.declared.Position.TheVariants as shows
use Rattle.block_words.specs.declared.Way.{Way}
use Rattle.block_words.specs.declared.Way.TheVariants.{Up, Down}
use Rattle.block_words.specs.declared.WelwynState.TheVariants as welwyn
use Rattle.line_plan.specs.Frames.{BoxFields, berth_of, starter_of}
use Rattle.line_plan.specs.Plans.{PlanFields}
use Rattle.line_plan.specs.Ways.{way_word}
use Rattle.line_plan.specs.declared.berth.Berth.{Berth}
use Rattle.line_plan.specs.declared.signal.Signal.{Signal}
use Rattle.line_law.specs.declared.call.Entry.{Entry}
use Rattle.line_law.specs.declared.state.BoxState.{BoxState}
use Rattle.line_law.specs.declared.state.Control.{Control}
use Rattle.line_law.specs.declared.state.Control.TheVariants.{Absolute, Permissive}
use Rattle.line_law.specs.declared.state.Incoming.{Incoming}
use Rattle.line_law.specs.declared.state.Passage.{Passage}
use Rattle.line_law.specs.Instruments.{same_position}
use Rattle.line_law.specs.Known.{is_code_no, knows_berth, knows_side}
use Rattle.line_law.specs.Law.{box_plan_of}
use Rattle.line_law.specs.LeverEnds.{is_off}
use Rattle.line_law.specs.States.{LineState, box_at}
use Rattle.line_law.specs.Tracks.{train_on}
use Rattle.line_law.specs.Ways.{of_way}
use Rattle.script_text.specs.Names.{code_no_text}
use Rattle.reg_audit.specs.declared.behind.InHand.{InHand}
use Rattle.reg_audit.specs.declared.bell.BellEntry.{BellEntry}
use Rattle.reg_audit.specs.declared.bell.BellKind.{BellKind}
use Rattle.reg_audit.specs.declared.bell.BellKind.TheVariants as kinds
use Rattle.reg_audit.specs.declared.marks.SideMarks.{SideMarks}
use Rattle.reg_audit.specs.Behind.{in_hand}
use Rattle.reg_audit.specs.Bells.{is_class_code, train_entering_section}
use Rattle.box_view.specs.Look.{first_coming, unheard_from}
use Rattle.due_hints.specs.declared.hint.Due.{Due}
use Rattle.due_hints.specs.declared.hint.Due.TheVariants.{Nothing, One, Several}
use Rattle.due_hints.specs.declared.hint.Hint.{Hint}
use Rattle.due_hints.specs.declared.hint.Hint.TheVariants.{RingBack, Hear, TurnTrainOnLine, RingOut, TurnNormal}
use Rattle.due_hints.specs.declared.hint.Hint.TheVariants.{RingEntering}

-- ---- a code that was heard

-- what box b has of an incoming line
abbrev pub incoming_at : LineState → ℕ → Way → Incoming
incoming_at state b way = of_way (box_at state b).incoming way

-- the instrument of an incoming line shows Line Clear
abbrev pub shows_clear : LineState → ℕ → Way → Bool
shows_clear state b way = same_position (incoming_at state b way).position shows.LineClear

-- a train is on the plain line of an incoming line
abbrev pub is_coming : PlanFields → LineState → ℕ → Way → Bool
is_coming plan state b way = knows_berth plan b way && is_some (first_coming state b way)

-- A code that was heard is rung back: an offer once Line Clear is given to it, since until then he may leave it
-- unanswered; Train Entering Section as long as Line Clear shows and the train isn't there, since from then on Train on
-- Line is the answer; every other code always.
abbrev pub is_rung_back : PlanFields → LineState → ℕ → Way → SideMarks → ℕ → Bool
is_rung_back plan state b side marks code =
    if is_class_code plan code then shows_clear state b (opposite side) && not marks.offered
    else if code == train_entering_section
    then shows_clear state b (opposite side) && not (is_coming plan state b (opposite side))
    else true

-- the code of a bell entry that was heard
abbrev pub heard_by : BellKind → ℕ → Option ℕ
heard_by kinds.Rung code = None
heard_by kinds.Heard code = Some code

-- the same, if there is a bell entry
abbrev pub heard_code : Option BellEntry → Option ℕ
heard_code None = None
heard_code (Some bell) = heard_by bell.kind bell.code

-- this code, if one was heard, is due to be rung back towards a side
abbrev pub back_due : PlanFields → LineState → ℕ → Way → SideMarks → Option ℕ → Option Hint
back_due plan state b side marks None = None
back_due plan state b side marks (Some code) =
    if is_rung_back plan state b side marks code then Some (RingBack side code) else None

-- a code stands unheard on the bell from a side: it has to be heard
abbrev pub bell_due : PlanFields → LineState → ℕ → Way → Option Hint
bell_due plan state b side =
    if knows_side plan b side && is_some (unheard_from state b side) then Some (Hear side) else None

-- ---- a train that comes in

-- a train is on the plain line, and the instrument still shows Line Clear: it has to show Train on Line before the
-- train comes to the berth
abbrev pub train_due : Way → Position → Option Passage → Option Hint
train_due way shows.Normal first = None
train_due way shows.LineClear None = None
train_due way shows.LineClear (Some passage) = Some (TurnTrainOnLine way)
train_due way shows.TrainOnLine first = None

-- a train has left the berth, no portion of it is left, and Train Out of Section wasn't rung for it
abbrev pub out_due : Way → Bool → Option ℕ → Option Hint
out_due side true None = Some (RingOut side)
out_due side true (Some train) = None
out_due side false portion = None

-- no train stands in this berth, if there is one
abbrev pub is_berth_free : BoxState → Option Berth → Bool
is_berth_free here None = true
is_berth_free here (Some berth) = not (is_some (train_on here.places berth.place))

-- no train stands in the berth of an incoming line of box b
abbrev pub is_free_at : PlanFields → LineState → ℕ → Way → Bool
is_free_at plan state b way = is_berth_free (box_at state b) (berth_of (box_plan_of plan b) way)

-- every train that was accepted has come to the berth and left it
abbrev pub is_over : Control → Bool
is_over (Absolute welwyn.Ready) = true
is_over (Absolute state) = false
is_over (Permissive out) = out == 0

-- no train is on the plain line or in the berth any more, Train Out of Section was rung for each that has left the
-- berth, and the instrument still shows Train on Line: it has to show Normal
abbrev pub normal_due : Way → Bool → Bool → Position → Control → Option Passage → Option Hint
normal_due way left free shows.Normal control first = None
normal_due way left free shows.LineClear control first = None
normal_due way left free shows.TrainOnLine control None =
    if (not left && free) && is_over control then Some (TurnNormal way) else None
normal_due way left free shows.TrainOnLine control (Some passage) = None

-- one thing before another: the first, where it is due
abbrev pub or_next : Option Hint → Option Hint → Option Hint
or_next None next = next
or_next (Some hint) next = Some hint

-- what is due for the trains of an incoming line from a side, by the first on its plain line and whether the berth is
-- free: Train on Line, then Train Out of Section, then Normal
abbrev pub train_dues : Way → Incoming → SideMarks → Bool → Option Passage → Option Hint
train_dues side incoming marks free first =
    or_next (train_due (opposite side) incoming.position first)
    (or_next (out_due side marks.left incoming.portion)
    (normal_due (opposite side) marks.left free incoming.position incoming.control first))

-- the same at box b, where the line has a berth there
abbrev pub coming_due : PlanFields → LineState → ℕ → Way → SideMarks → Option Hint
coming_due plan state b side marks =
    if knows_berth plan b (opposite side)
    then train_dues side (incoming_at state b (opposite side)) marks (is_free_at plan state b (opposite side))
    (first_coming state b (opposite side))
    else None

-- ---- a train that goes away

-- a train stands at this starter, if there is one, and its arm is off
abbrev pub waits_at : BoxState → Option Signal → Bool
waits_at here None = false
waits_at here (Some signal) = is_off here.off signal.lever && is_some (train_on here.places signal.from)

-- the same at the starter of an outgoing line
abbrev pub waits_at_starter : BoxFields → BoxState → Way → Bool
waits_at_starter box_plan here way = waits_at here (starter_of box_plan way)

-- a train is to pass the starter, and Train Entering Section wasn't rung for it
abbrev pub going_due : PlanFields → LineState → ℕ → Way → SideMarks → Option Hint
going_due plan state b side marks =
    if waits_at_starter (box_plan_of plan b) (box_at state b) side && not marks.entering
    then Some (RingEntering side)
    else None

-- ---- a box

-- What is due at the bell from a side of box b: a code that was heard is rung back before the next is heard.
abbrev pub ring_due : PlanFields → LineState → ℕ → Way → SideMarks → Option BellEntry → Option Hint
ring_due plan state b side marks asked =
    or_next (back_due plan state b side marks (heard_code asked)) (bell_due plan state b side)

-- how much is due, by what is
abbrev pub due_of : Option Hint → Due
due_of None = Nothing
due_of (Some hint) = One hint

-- how much is due in two parts together
abbrev pub together : Due → Due → Due
together Nothing due = due
together (One hint) Nothing = One hint
together (One hint) (One other) = Several
together (One hint) Several = Several
together Several due = Several

-- how much is due on a side of box b: at its bell, for the trains that come from there, and for those that go there
abbrev pub side_due : PlanFields → LineState → ℕ → Way → SideMarks → Option BellEntry → Due
side_due plan state b side marks asked =
    together (due_of (ring_due plan state b side marks asked))
    (together (due_of (coming_due plan state b side marks)) (due_of (going_due plan state b side marks)))

-- the one thing that is due, where exactly one is
abbrev pub only : Due → Option Hint
only Nothing = None
only (One hint) = Some hint
only Several = None

-- what is due at box b with this in hand, where exactly one thing is
unfoldable pub due_with : PlanFields → LineState → ℕ → InHand → Option Hint
due_with plan state b hand =
    only (together (side_due plan state b Up hand.marks.up hand.asked.up)
    (side_due plan state b Down hand.marks.down hand.asked.down))

-- what the man of box b has to do next behind a journal that leaves the line so
abbrev pub hint_of : PlanFields → LineState → ℕ → List Entry → Option Hint
hint_of plan state b es = due_with plan state b (in_hand plan b es)

-- ---- as text

-- a code, as it is typed; the plan has every code that is heard
abbrev pub typed_code : PlanFields → ℕ → List ℕ
typed_code plan code = if is_code_no plan code then code_no_text plan.codes code else codes "an unknown code"

-- what is to be done, about a way, and why
abbrev pub due_line : List ℕ → Way → List ℕ → List ℕ
due_line call way why = call ++ way_word way ++ why ++ 10 ∷ []

-- a hint as a line: the call, and why it is due
abbrev pub hint_text : PlanFields → Hint → List ℕ
hint_text plan (RingBack side code) =
    codes "ring " ++ way_word side ++ 32 ∷ typed_code plan code ++ codes ": it was heard and isn't rung back"
    ++ 10 ∷ []
hint_text plan (Hear side) = due_line (codes "hear ") side (codes ": a code stands unheard")
hint_text plan (TurnTrainOnLine way) =
    due_line (codes "turn ") way (codes " train_on_line: a train is in the section")
hint_text plan (RingOut side) = due_line (codes "ring ") side (codes " 2-1: a train has left the section")
hint_text plan (TurnNormal way) = due_line (codes "turn ") way (codes " normal: the train has left the section")
hint_text plan (RingEntering side) = due_line (codes "ring ") side (codes " 2: a train is to pass the starter")
