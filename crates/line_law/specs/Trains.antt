-- The moves of trains in a box, and into a section.
use Rattle.std.specs.Prelude.{ℕ, ◌+◌, ◌-◌, List, [], ◌∷◌, ◌++◌, Option, Some, None, Bool, true, false, ◌==◌}
use Rattle.std.specs.Prelude.{if◌then◌else◌, slice_set, slice_index_or}
use Rattle.std.specs.List.{list_any}
use Rattle.block_words.specs.declared.Way.{Way}
use Rattle.line_plan.specs.Frames.{BoxFields, signal_of}
use Rattle.line_plan.specs.declared.berth.Berth.{Berth}
use Rattle.line_plan.specs.declared.signal.Signal.{Signal}
use Rattle.line_plan.specs.declared.signal.To.{To}
use Rattle.line_plan.specs.declared.signal.To.TheVariants as leads
use Rattle.line_law.specs.declared.call.Reply.{Reply}
use Rattle.line_law.specs.declared.call.Reply.TheVariants.{Brought, AlreadyBrought, Occupied, Passed, Entered, NoTrain}
use Rattle.line_law.specs.declared.call.Reply.TheVariants.{AtDanger, ArmOff, SectionFull}
use Rattle.line_law.specs.declared.state.BoxState.{BoxState}
use Rattle.line_law.specs.declared.state.Incoming.{Incoming}
use Rattle.line_law.specs.declared.state.Passage.{Passage}
use Rattle.line_law.specs.declared.tracks.Standing.{Standing}
use Rattle.line_law.specs.Controls.{left_control}
use Rattle.line_law.specs.Decisions.{Told, Decision, Here, OnPlainLine, or_later, unless}
use Rattle.line_law.specs.LeverEnds.{is_off}
use Rattle.line_law.specs.Tracks.{first_standing, train_on}
use Rattle.line_law.specs.Ways.{of_way, with_way}

-- ---- bring

-- a train was brought before
abbrev pub was_brought : List Bool → ℕ → Bool
was_brought brought train = slice_index_or brought (train - 1) false

-- the box with the train at its place
abbrev pub brought_here : BoxState → ℕ → ℕ → BoxState
brought_here here train place =
    record here { places = slice_set here.places place (Some train); brought = slice_set here.brought (train - 1) true }

-- refused where a train stands at the place
abbrev pub place_refusal : ℕ → Option ℕ → Option Reply
place_refusal place None = None
place_refusal place (Some there) = Some (Occupied place there)

-- what bringing a train is refused for: it was brought before, or a train stands at its place
abbrev pub bring_refusal : BoxState → ℕ → ℕ → Option Reply
bring_refusal here train place =
    if was_brought here.brought train then Some AlreadyBrought else place_refusal place (train_on here.places place)

-- a train is brought to its own place
abbrev pub bring : BoxState → ℕ → ℕ → Decision
bring here train place = unless (bring_refusal here train place) here (Here Brought (brought_here here train place))

-- ---- what keeps a train from passing a signal

-- a train passes a signal whose arm is off
abbrev pub danger_refusal : Bool → Option Reply
danger_refusal true = None
danger_refusal false = Some AtDanger

-- a train overruns a signal whose arm is at danger
abbrev pub off_refusal : Bool → Option Reply
off_refusal true = Some ArmOff
off_refusal false = None

-- the place, if any, to which a signal leads
abbrev pub end_of : To → List ℕ
end_of (leads.Place place) = place ∷ []
end_of (leads.Section way) = []
end_of leads.Away = []

-- refused where a train stands in the way
abbrev pub standing_refusal : Option Standing → Option Reply
standing_refusal None = None
standing_refusal (Some there) = Some (Occupied there.place there.train)

-- the first occupied of the places run over, and then the place to which the signal leads
abbrev pub way_refusal : BoxState → Signal → Option Reply
way_refusal here signal =
    or_later (standing_refusal (first_standing here.places signal.over))
    (standing_refusal (first_standing here.places (end_of signal.to)))

-- what passing the signal is refused for in the box
abbrev pub pass_refusal : BoxState → Signal → Option Reply
pass_refusal here signal = or_later (danger_refusal (is_off here.off signal.lever)) (way_refusal here signal)

-- what overrunning it is refused for in the box
abbrev pub overrun_refusal : BoxState → Signal → Option Reply
overrun_refusal here signal = or_later (off_refusal (is_off here.off signal.lever)) (way_refusal here signal)

-- ---- what a train does that passes a signal

-- a berth is at the place
abbrev pub is_berth_at : Option Berth → ℕ → Bool
is_berth_at None place = false
is_berth_at (Some berth) place = berth.place == place

-- an incoming line after a train has left a place: where that is its berth, its control is told
abbrev pub line_left : Option Berth → ℕ → Incoming → Incoming
line_left berth place line =
    if is_berth_at berth place then record line { control = left_control line.control } else line

-- the box after the train has left the signal's place, with the signal's arm at danger
abbrev pub left_by : BoxFields → BoxState → Signal → BoxState
left_by box_plan here signal =
    record here {
      off = slice_set here.off (signal.lever - 1) false;
      places = slice_set here.places signal.from None;
      incoming = record {
        up = line_left box_plan.berth_up signal.from here.incoming.up;
        down = line_left box_plan.berth_down signal.from here.incoming.down;
      };
    }

-- the plain line still holds the train that entered four before the k-th
abbrev pub holds : List Passage → ℕ → Bool
holds line k = list_any (λ passage. passage.number == k - 4) line

-- what a train that would enter as the k-th is refused for: the plain line still holds train k - 4
abbrev pub entry_refusal : List Passage → ℕ → Option Reply
entry_refusal line k = if holds line k then Some (SectionFull k) else None

-- a train enters a section as its k-th, unless the plain line still holds train k - 4
abbrev pub entered : ℕ → BoxState → BoxState → Way → ℕ → List Passage → Told (List Passage)
entered k here left way train line =
    if holds line k
    then record { reply = SectionFull k; here = here; word = line }
    else record {
      reply = Entered train k;
      here = record left { sent = with_way left.sent way k };
      word = line ++ record { number = k; train = train } ∷ [];
    }

-- a train enters the section of an outgoing line: the count of trains sent rises
abbrev pub enter : BoxState → BoxState → Way → ℕ → List Passage → Told (List Passage)
enter here left way train line = entered (of_way here.sent way + 1) here left way train line

-- the box with a train that has left at the place to which its signal leads
abbrev pub put_at : BoxState → ℕ → ℕ → BoxState
put_at left place train = record left { places = slice_set left.places place (Some train) }

-- a train that has left goes where the signal leads
abbrev pub go : BoxState → BoxState → ℕ → To → Decision
go here left train (leads.Place place) = Here (Passed train) (put_at left place train)
go here left train (leads.Section way) = OnPlainLine (enter here left way train)
go here left train leads.Away = Here (Passed train) left

-- a train goes, by the train at the signal's place and by what it is refused for
abbrev pub move : Option ℕ → Option Reply → BoxFields → BoxState → Signal → Decision
move None refusal box_plan here signal = Here NoTrain here
move (Some train) (Some reply) box_plan here signal = Here reply here
move (Some train) None box_plan here signal = go here (left_by box_plan here signal) train signal.to

-- ---- pass and overrun

-- a train passes a signal; a lever without one is known to no plan
abbrev pub pass_signal : Option Signal → BoxFields → BoxState → Decision
pass_signal None box_plan here = Here NoTrain here
pass_signal (Some signal) box_plan here =
    move (train_on here.places signal.from) (pass_refusal here signal) box_plan here signal

-- a train passes the signal of a lever
abbrev pub pass : BoxFields → BoxState → ℕ → Decision
pass box_plan here lever = pass_signal (signal_of box_plan lever) box_plan here

-- a train overruns a signal; a lever without one is known to no plan
abbrev pub overrun_signal : Option Signal → BoxFields → BoxState → Decision
overrun_signal None box_plan here = Here NoTrain here
overrun_signal (Some signal) box_plan here =
    move (train_on here.places signal.from) (overrun_refusal here signal) box_plan here signal

-- a train overruns the signal of a lever
abbrev pub overrun : BoxFields → BoxState → ℕ → Decision
overrun box_plan here lever = overrun_signal (signal_of box_plan lever) box_plan here
