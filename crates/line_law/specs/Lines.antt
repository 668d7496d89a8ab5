-- What every line of a plan keeps.
use Rattle.std.specs.Prelude.{◌≡◌, ℕ, ◌+◌, ◌≤◌, ◌<◌, ◌⊎◌, List, [], ◌∷◌, true, Option, Some, None, All, IfSome, IsTrue}
use Rattle.std.specs.Prelude.{length}
use Rattle.block_words.specs.declared.Way.{Way}
use Rattle.locking_table.specs.Meaning.{RowHolds}
use Rattle.locking_table.specs.Places.{at_ends}
use Rattle.line_plan.specs.Frames.{BoxFields, berth_of, frame_size}
use Rattle.line_plan.specs.Plans.{PlanFields, is_train}
use Rattle.line_plan.specs.Sections.{IsSection, advance_of}
use Rattle.line_plan.specs.declared.berth.Berth.{Berth}
use Rattle.line_plan.specs.declared.plan.TrainPlan.{TrainPlan}
use Rattle.line_plan.specs.declared.section.Section.{Section}
use Rattle.line_law.specs.declared.link.Link.TheVariants.{Out}
use Rattle.line_law.specs.declared.state.Bell.{Bell}
use Rattle.line_law.specs.declared.state.Block.{Block}
use Rattle.line_law.specs.declared.state.BoxState.{BoxState}
use Rattle.line_law.specs.declared.state.Control.{Control}
use Rattle.line_law.specs.declared.state.Control.TheVariants.{Absolute, Permissive}
use Rattle.line_law.specs.declared.state.PairState.{PairState}
use Rattle.line_law.specs.declared.state.Passage.{Passage}
use Rattle.line_law.specs.Law.{box_plan_of}
use Rattle.line_law.specs.Links.{pair_no}
use Rattle.line_law.specs.States.{LineState, IsStateOf, box_at, pair_at}
use Rattle.line_law.specs.LeverEnds.{is_off, is_pulled}
use Rattle.line_law.specs.Trains.{holds}
use Rattle.line_law.specs.Ways.{of_way}

-- what a line in one hand is to its callers: its state, and how many calls were made
pub record PlainState : Type 0 where
  pub line : LineState
  pub calls : ℕ

-- ---- a box

-- the control of a line is Welwyn control where the line is absolute, else a count of at most as many trains as the
-- line may hold
abbrev pub FitsLine : Option ℕ → Control → Type 0
FitsLine None (Absolute state) = Unit {0}
FitsLine None (Permissive out) = ⊥
FitsLine (Some n) (Absolute state) = ⊥
FitsLine (Some n) (Permissive out) = out ≤ n

-- a train more may be out, and the count still fits its type
abbrev pub HasRoomOut : Control → Type 0
HasRoomOut (Absolute state) = Unit {0}
HasRoomOut (Permissive out) = out < 255

-- the same by the berth of the line; one without a berth is absolute
abbrev pub IsControlOf : Option Berth → Control → Type 0
IsControlOf None control = FitsLine None control
IsControlOf (Some berth) control = FitsLine berth.permissive control

-- each lever has an end and an arm, and each place a train or none
pub record HasFrame (box_plan : BoxFields) (here : BoxState) : Type 0 where
  pub ends : length here.ends ≡ frame_size box_plan.levers
  pub off : length here.off ≡ frame_size box_plan.levers
  pub places : length here.places ≡ length box_plan.places

-- a state of a box with this plan, of a line with these trains: it has the frame and the places; each train of the plan
-- was brought or not; a train that stands at a place is one of the plan; and each incoming line has its kind of control
pub record IsBoxOf (trains : List TrainPlan) (box_plan : BoxFields) (here : BoxState) : Type 0 where
  pub frame : HasFrame box_plan here
  pub brought : length here.brought ≡ length trains
  pub occupants : All (λ there. IfSome there (λ train. IsTrue (is_train trains train))) here.places
  pub controls : (way : Way) → IsControlOf (berth_of box_plan way) (of_way here.incoming way).control

-- an arm that is off has its lever reversed
abbrev pub ArmsFollow : BoxState → Type 0
ArmsFollow here = (lever : ℕ) → is_off here.off lever ≡ true → is_pulled here.ends lever ≡ true

-- every row of the box's locking table holds as the levers stand
abbrev pub RowsHold : BoxFields → BoxState → Type 0
RowsHold box_plan here = All (RowHolds (at_ends here.ends)) box_plan.rows

-- neither of its counts of trains is above a number
pub record HasCounts (limit : ℕ) (here : BoxState) : Type 0 where
  pub sent : (way : Way) → of_way here.sent way ≤ limit
  pub taken : (way : Way) → (of_way here.incoming way).taken ≤ limit

-- what a box keeps after so many calls on the line
pub record IsBoxAfter (trains : List TrainPlan) (box_plan : BoxFields) (calls : ℕ) (here : BoxState) : Type 0 where
  pub shape : IsBoxOf trains box_plan here
  pub arms : ArmsFollow here
  pub rows : RowsHold box_plan here
  pub counts : HasCounts calls here

-- ---- a pair

-- what a pair keeps after so many calls on the line: no bell was rung and no instrument turned more often, and the
-- trains on its plain lines are the plan's
pub record IsPairAfter (trains : List TrainPlan) (calls : ℕ) (pair : PairState) : Type 0 where
  pub bells : (way : Way) → (of_way pair.bells way).count ≤ calls
  pub blocks : (way : Way) → (of_way pair.blocks way).turns ≤ calls
  pub lines : (way : Way) → All (λ passage. IsTrue (is_train trains passage.train)) (of_way pair.lines way)

-- ---- a section

-- the trains of a plain line have numbers that follow one another: the first is one more than the trains taken, the
-- last the trains sent
abbrev pub AreNumbered : ℕ → ℕ → List Passage → Type 0
AreNumbered taken sent [] = taken ≡ sent
AreNumbered taken sent (passage ∷ line) = (passage.number ≡ taken + 1) × AreNumbered (taken + 1) sent line

-- the plain line has room for the train after those sent, or holds the one that entered four before it
abbrev pub HasRoom : ℕ → List Passage → Type 0
HasRoom sent line = (length line < 4) ⊎ IsTrue (holds line (sent + 1))

-- a left portion is that of the first train of the plain line
abbrev pub IsFirst : Option ℕ → List Passage → Type 0
IsFirst None line = Unit {0}
IsFirst (Some train) [] = ⊥
IsFirst (Some train) (passage ∷ line) = passage.train ≡ train

-- What a section keeps, by its rear box, its box in advance, and its bell, instrument and plain line. The rear box has
-- counted the codes rung on the bell. The box in advance has counted the turns of the instrument, and its commutator
-- shows what that shows. The trains on the plain line have numbers that follow one another, and are at most four; a
-- left portion is that of the first of them.
pub record IsSectionBetween (way : Way) (rear advance : BoxState) (bell : Bell) (block : Block) (line : List Passage)
    : Type 0 where
  pub rung : of_way rear.rung way ≡ bell.count
  pub turns : (of_way advance.incoming way).turns ≡ block.turns
  pub position : (of_way advance.incoming way).position ≡ block.position
  pub numbered : AreNumbered (of_way advance.incoming way).taken (of_way rear.sent way) line
  pub four : length line ≤ 4
  pub portion : IsFirst (of_way advance.incoming way).portion line

-- the pair of the two boxes of a section
abbrev pub pair_in : LineState → Section → PairState
pair_in state section = pair_at state (pair_no section.rear (Out section.way))

-- the plain line of a section
abbrev pub plain_line_of : LineState → Section → List Passage
plain_line_of state section = of_way (pair_in state section).lines section.way

-- the section keeps this in a state
abbrev pub IsSectionIn : LineState → Section → Type 0
IsSectionIn state section =
    IsSectionBetween section.way (box_at state section.rear) (box_at state (advance_of section))
    (of_way (pair_in state section).bells section.way) (of_way (pair_in state section).blocks section.way)
    (plain_line_of state section)

-- ---- a line

-- a line of that plan: a state for each box and for each two neighbours; and what each box, each pair and each section
-- keeps
pub record IsLineOf (plan : PlanFields) (plain : PlainState) : Type 0 where
  pub shape : IsStateOf plan plain.line
  pub boxes : (b : ℕ) → b < length plan.boxes
      → IsBoxAfter plan.trains (box_plan_of plan b) plain.calls (box_at plain.line b)
  pub pairs : (p : ℕ) → IsPairAfter plan.trains plain.calls (pair_at plain.line p)
  pub sections : (section : Section) → IsSection plan section → IsSectionIn plain.line section
