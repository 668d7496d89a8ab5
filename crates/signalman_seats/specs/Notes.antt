-- What a signalman keeps of the line's plan, and which calls it tells him that the plan knows.
use Rattle.std.specs.Prelude.{◌≡◌, ℕ, ◌-◌, Bool, false, ◌&&◌, ◌==◌, nat_lt, nat_le, is_some, length, map}
use Rattle.std.specs.Prelude.{slice_index_or}
use Rattle.block_words.specs.declared.Way.{Way}
use Rattle.line_plan.specs.Frames.{BoxFields, berth_of, lever_of, signal_of}
use Rattle.line_plan.specs.Plans.{PlanFields}
use Rattle.line_plan.specs.Ways.{comes_in, has_neighbour, leaves}
use Rattle.line_law.specs.declared.call.Act.{Act}
use Rattle.line_law.specs.declared.call.Act.TheVariants.{Ring, Hear, AwaitBell, Turn, AwaitBlock, Pull, Put, Bring}
use Rattle.line_law.specs.declared.call.Act.TheVariants.{Pass, Overrun, AwaitTrain, Berth, BerthPart, ClearPortion}
use Rattle.line_law.specs.declared.call.Act.TheVariants.{Wind, Release}
use Rattle.line_law.specs.declared.call.Call.{Call}
use Rattle.line_law.specs.Known.{moments_of}
use Rattle.signalman_seats.specs.declared.notes.PlanNotes.{PlanNotes}

-- the notes are of this plan, for box b
pub record AreNotesOf (plan : PlanFields) (b : ℕ) (notes : PlanNotes) : Type 0 where
  pub boxes : notes.boxes ≡ length plan.boxes
  pub codes : notes.codes ≡ length plan.codes
  pub moments : notes.moments ≡ moments_of plan.version
  pub trains : notes.brought_here.items ≡ map (λ train. train.box_no == b) plan.trains

-- ---- which calls the notes tell to be known

abbrev pub notes_know_code : PlanNotes → ℕ → Bool
notes_know_code notes code = nat_le 1 code && nat_le code notes.codes

-- the line of that way comes into box b from a neighbour, and the box has a berth there
abbrev pub notes_know_berth : PlanNotes → BoxFields → ℕ → Way → Bool
notes_know_berth notes box_plan b way = comes_in notes.boxes b way && is_some (berth_of box_plan way)

abbrev pub notes_know_lever : BoxFields → ℕ → Bool
notes_know_lever box_plan lever = is_some (lever_of box_plan lever)

abbrev pub notes_know_arm : BoxFields → ℕ → Bool
notes_know_arm box_plan lever = notes_know_lever box_plan lever && is_some (signal_of box_plan lever)

abbrev pub notes_know_train : PlanNotes → ℕ → Bool
notes_know_train notes train =
    (nat_lt 0 train && nat_lt (train - 1) (length notes.brought_here.items))
    && slice_index_or notes.brought_here.items (train - 1) false

-- what a call of box b does, by the plan of the box
abbrev pub notes_know_act : PlanNotes → BoxFields → ℕ → Act → Bool
notes_know_act notes box_plan b (Ring side code) = has_neighbour notes.boxes b side && notes_know_code notes code
notes_know_act notes box_plan b (Hear side) = has_neighbour notes.boxes b side
notes_know_act notes box_plan b (AwaitBell side code) = has_neighbour notes.boxes b side && notes_know_code notes code
notes_know_act notes box_plan b (Turn way position) = notes_know_berth notes box_plan b way
notes_know_act notes box_plan b (AwaitBlock way position) = leaves notes.boxes b way
notes_know_act notes box_plan b (Pull lever) = notes_know_lever box_plan lever
notes_know_act notes box_plan b (Put lever) = notes_know_lever box_plan lever
notes_know_act notes box_plan b (Bring train) = notes_know_train notes train
notes_know_act notes box_plan b (Pass lever) = notes_know_arm box_plan lever
notes_know_act notes box_plan b (Overrun lever) = notes_know_arm box_plan lever
notes_know_act notes box_plan b (AwaitTrain way) = notes_know_berth notes box_plan b way
notes_know_act notes box_plan b (Berth way) = notes_know_berth notes box_plan b way
notes_know_act notes box_plan b (BerthPart way) = notes_know_berth notes box_plan b way
notes_know_act notes box_plan b (ClearPortion way) = notes_know_berth notes box_plan b way
notes_know_act notes box_plan b (Wind way) = notes_know_berth notes box_plan b way
notes_know_act notes box_plan b (Release way) = notes_know_berth notes box_plan b way

-- a call of box b
abbrev pub notes_know : PlanNotes → BoxFields → ℕ → Call → Bool
notes_know notes box_plan b call =
    nat_lt b notes.boxes && nat_lt call.moment notes.moments && notes_know_act notes box_plan b call.act
