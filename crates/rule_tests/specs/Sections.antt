-- What a seat knows that sends trains past its down starter, from the opening on.
use Rattle.std.specs.Prelude.{◌≡◌, ◌≢◌, ℕ, ◌+◌, ◌<◌, false, [], length, slice_index_or, Some, None}
use Rattle.block_words.specs.declared.Way.TheVariants.{Down}
use Rattle.line_plan.specs.Frames.{signal_of}
use Rattle.line_plan.specs.Plans.{PlanFields}
use Rattle.line_plan.specs.declared.signal.Signal.{Signal}
use Rattle.line_plan.specs.declared.signal.To.TheVariants as leads
use Rattle.line_law.specs.declared.state.BoxState.{BoxState}
use Rattle.line_law.specs.History.{state_of}
use Rattle.line_law.specs.Law.{box_plan_of}
use Rattle.line_law.specs.States.{box_at}
use Rattle.line_law.specs.Tracks.{train_on}
use Rattle.line_law.specs.Trains.{was_brought}
use Rattle.instrument_rule.specs.declared.view.View.{View}
use Rattle.instrument_rule.specs.Views.{caller_of}
use Rattle.rule_tests.specs.Hands.{Knows}

-- the lever of box b works its down starter, at which trains stand at this place, and which runs over no other
pub record IsStarter (plan : PlanFields) (b lever place : ℕ) : Type 0 where
  pub signal : Signal
  pub works : signal_of (box_plan_of plan b) lever ≡ Some signal
  pub from : signal.from ≡ place
  pub over : signal.over ≡ []
  pub leads_down : signal.to ≡ leads.Section Down

-- the box has sent so many trains down; no train stands in it, and those after them weren't brought
pub record Waits (here : BoxState) (place sent : ℕ) : Type 0 where
  pub off : (at : ℕ) → slice_index_or here.off at false ≡ false
  pub clear : (other : ℕ) → train_on here.places other ≡ None
  pub within : place < length here.places
  pub sent_down : here.sent.down ≡ sent
  pub new : (train : ℕ) → sent < train → was_brought here.brought train ≡ false
  pub rung_down : here.rung.down ≡ 0

-- the next train stands at the place, and no other anywhere
pub record Stands (here : BoxState) (place sent : ℕ) : Type 0 where
  pub off : (at : ℕ) → slice_index_or here.off at false ≡ false
  pub there : train_on here.places place ≡ Some (sent + 1)
  pub others : (other : ℕ) → other ≢ place → train_on here.places other ≡ None
  pub within : place < length here.places
  pub sent_down : here.sent.down ≡ sent
  pub new : (train : ℕ) → sent + 1 < train → was_brought here.brought train ≡ false
  pub rung_down : here.rung.down ≡ 0

-- the box of the seat waits for its next train, after so many calls
pub record IsWaiting (plan : PlanFields) (v : View) (place sent calls : ℕ) : Type 0 where
  pub knows : Knows plan v 0 calls
  pub waits : Waits (box_at (state_of plan v.seen) (caller_of v.posts)) place sent

-- the next train stands at its starter
pub record IsStanding (plan : PlanFields) (v : View) (place sent calls : ℕ) : Type 0 where
  pub knows : Knows plan v 0 calls
  pub stands : Stands (box_at (state_of plan v.seen) (caller_of v.posts)) place sent
