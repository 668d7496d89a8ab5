-- A line of desks beside a line in one hand, after the same history.
use Rattle.std.specs.Prelude.{ℕ, ◌≡◌, ◌<◌, List, [], length, slice_index_or}
use Rattle.line_plan.specs.Plans.{PlanFields, no_box}
use Rattle.line_law.specs.declared.call.Entry.{Entry}
use Rattle.line_law.specs.History.{IsLegal, state_of}
use Rattle.line_law.specs.Lines.{IsLineOf, PlainState}
use Rattle.line_law.specs.States.{no_state}
use Rattle.box_desk.specs.Desks.{DeskFields}
use Rattle.desk_tests.specs.declared.desk_line.DeskLine.{DeskLine}
use Rattle.desk_tests.specs.DeskLines.{HoldNumbers, IsDeskAfter}

-- the desk of no box
abbrev pub no_desk : DeskFields
no_desk = record { box_plan = no_box; train_places = []; delay = 0; here = no_state; calls = 0 }

-- the desks of the first so many boxes, after a history
pub record AreDesksAfter (plan : PlanFields) (es : List Entry) (count : ℕ) (desks : List DeskFields) : Type 0 where
  pub long : length desks ≡ count
  pub each : (b : ℕ) → b < count → IsDeskAfter plan es b (slice_index_or desks b no_desk)

-- each desk, the words and the line in one hand are as after this legal history
pub record IsAfter (plan : PlanFields) (es : List Entry) (boxes : ℕ) (desks : List DeskFields) (words : List ℕ)
    (plain : PlainState) : Type 0 where
  pub legal : IsLegal plan es
  pub wide : boxes ≡ length plan.boxes
  pub desks_are : AreDesksAfter plan es (length plan.boxes) desks
  pub words_hold : HoldNumbers plan es words
  pub line_of : IsLineOf plan plain
  pub state_is : state_of plan es ≡ plain.line
  pub calls_are : plain.calls ≡ length es

-- so after some legal history
abbrev pub IsWorked : PlanFields → DeskLine → Type 0
IsWorked plan line = (es : List Entry) × IsAfter plan es line.boxes line.desks.items line.words.items line.plain
