-- What a reply tells is there: its codes, places, trains, levers and rows are the plan's, and its counts and moments in
-- range.
use Rattle.std.specs.Prelude.{ℕ, ◌+◌, ◌<◌, ◌≤◌, IfSome, IsTrue, length}
use Rattle.block_words.specs.declared.WelwynState.{WelwynState}
use Rattle.block_words.specs.declared.WelwynState.TheVariants as welwyn
use Rattle.line_plan.specs.Plans.{PlanFields, is_train}
use Rattle.line_law.specs.declared.call.Reply.{Reply}
use Rattle.line_law.specs.declared.call.Reply.TheVariants as replies
use Rattle.line_law.specs.Known.{is_code_no, knows_lever, moments_of}
use Rattle.line_law.specs.Law.{box_plan_of}

-- a code of the plan's code table
abbrev pub IsCode : PlanFields → ℕ → Type 0
IsCode plan code = IsTrue (is_code_no plan code)

-- a train of the plan
abbrev pub IsOne : PlanFields → ℕ → Type 0
IsOne plan train = IsTrue (is_train plan.trains train)

-- a place of box b, with a train of the plan
abbrev pub IsStand : PlanFields → ℕ → ℕ → ℕ → Type 0
IsStand plan b place train = (place < length (box_plan_of plan b).places) × IsOne plan train

-- a lever of the frame of box b
abbrev pub HasLever : PlanFields → ℕ → ℕ → Type 0
HasLever plan b lever = IsTrue (knows_lever plan b lever)

-- a row of the locking table of box b; rows are numbered from 1
abbrev pub HasRow : PlanFields → ℕ → ℕ → Type 0
HasRow plan b row = (1 ≤ row) × (row ≤ length (box_plan_of plan b).rows)

-- a Welwyn state other than Ready holds the commutator
abbrev pub HoldsBack : WelwynState → Type 0
HoldsBack welwyn.Ready = ⊥
HoldsBack state = Unit {0}

-- a release may come by the plan's delay after the last moment of the day
abbrev pub IsReadyMoment : PlanFields → ℕ → Type 0
IsReadyMoment plan moment = moment < moments_of plan.version + plan.delay

-- what a reply tells at box b after so many calls on the line: no count is above the number of calls; a reply that
-- isn't listed tells nothing
unfoldable pub IsTold : PlanFields → ℕ → ℕ → Reply → Type 0
IsTold plan b calls (replies.Rung k) = k ≤ calls
IsTold plan b calls (replies.BellBusy code k) = (k ≤ calls) × IsCode plan code
IsTold plan b calls (replies.Heard code k) = (k ≤ calls) × IsCode plan code
IsTold plan b calls (replies.Silent k) = k ≤ calls
IsTold plan b calls (replies.BellNotYet shown k) = (k ≤ calls) × IfSome shown (IsCode plan)
IsTold plan b calls (replies.Turned v) = v ≤ calls
IsTold plan b calls (replies.HomeReversed lever) = HasLever plan b lever
IsTold plan b calls (replies.TrackOccupied place train) = IsStand plan b place train
IsTold plan b calls (replies.WelwynHolds state) = HoldsBack state
IsTold plan b calls (replies.CountFull out) = out ≤ 3
IsTold plan b calls (replies.Seen v) = v ≤ calls
IsTold plan b calls (replies.BlockNotYet shown v) = v ≤ calls
IsTold plan b calls (replies.PulledUnder v) = v ≤ calls
IsTold plan b calls (replies.HeldByLever lever row) = HasLever plan b lever × HasRow plan b row
IsTold plan b calls (replies.HeldByTrack place train) = IsStand plan b place train
IsTold plan b calls (replies.HeldByInstrument way shown spent v) = v ≤ calls
IsTold plan b calls (replies.Occupied place train) = IsStand plan b place train
IsTold plan b calls (replies.Passed train) = IsOne plan train
IsTold plan b calls (replies.Entered train k) = (k ≤ calls) × IsOne plan train
IsTold plan b calls (replies.SectionFull k) = k ≤ calls
IsTold plan b calls (replies.Approaching train j) = (j ≤ calls) × IsOne plan train
IsTold plan b calls (replies.TrainNotYet j) = j ≤ calls
IsTold plan b calls (replies.Berthed train j) = (j ≤ calls) × IsOne plan train
IsTold plan b calls (replies.PartBerthed train j) = (j ≤ calls) × IsOne plan train
IsTold plan b calls (replies.NoTrainAt j) = j ≤ calls
IsTold plan b calls (replies.BerthOccupied train) = IsOne plan train
IsTold plan b calls (replies.PortionAhead train) = IsOne plan train
IsTold plan b calls (replies.Cleared train j) = (j ≤ calls) × IsOne plan train
IsTold plan b calls (replies.Winding ready_at) = IsReadyMoment plan ready_at
IsTold plan b calls (replies.TooSoon ready_at) = IsReadyMoment plan ready_at
IsTold plan b calls reply = Unit {0}
