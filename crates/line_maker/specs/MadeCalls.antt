-- The scripts of the made line: what each signalman does for each train.
use Rattle.std.specs.Prelude.{◌≡◌, ℕ, zero, suc, List, [], ◌∷◌, ◌++◌, length, map, Some, slice_get, if◌then◌else◌}
use Rattle.block_words.specs.declared.Way.{Way}
use Rattle.block_words.specs.declared.Way.TheVariants.{Up, Down}
use Rattle.block_words.specs.declared.Position.TheVariants.{Normal, LineClear, TrainOnLine}
use Rattle.line_law.specs.declared.call.Act.{Act}
use Rattle.line_law.specs.declared.call.Act.TheVariants.{Ring, AwaitBell, Turn, AwaitBlock, Pull, Put, Bring, Pass}
use Rattle.line_law.specs.declared.call.Act.TheVariants.{AwaitTrain, Berth}
use Rattle.line_law.specs.declared.call.Call.{Call}
use Rattle.line_plan.specs.Plans.{PlanFields}
use Rattle.script_text.specs.Scripts.{IsScriptOf}
use Rattle.script_text.specs.declared.script.Script.{Script}
use Rattle.line_maker.specs.MadeTrains.{class_code, runs_down, train_moment}
use Rattle.line_maker.specs.declared.working.MadeBox.{MadeBox}
use Rattle.line_maker.specs.declared.working.MadeBox.TheVariants.{Ash, Beech, Cedar}

-- A train is sent on: Call Attention (code 1), its class, Line Clear, the starter, Train Entering Section (code 6); it
-- leaves, and Train Out of Section (code 7) follows.
unfoldable pub send : Way → ℕ → ℕ → List Act
send side lever code =
    Ring side 1 ∷ AwaitBell side 1 ∷ Ring side code ∷ AwaitBell side code ∷ AwaitBlock side LineClear ∷ Pull lever
    ∷ Ring side 6 ∷ AwaitBell side 6 ∷ Pass lever ∷ Put lever ∷ AwaitBell side 7 ∷ Ring side 7 ∷ []

-- A train is taken in from a side, on the line of that way, and passes its home signal.
unfoldable pub take_in : Way → Way → ℕ → ℕ → List Act
take_in side way home code =
    AwaitBell side 1 ∷ Ring side 1 ∷ AwaitBell side code ∷ Ring side code ∷ Turn way LineClear ∷ AwaitBell side 6
    ∷ Ring side 6 ∷ Turn way TrainOnLine
    ∷ AwaitTrain way ∷ Berth way ∷ Pull home ∷ Pass home ∷ Put home ∷ Ring side 7 ∷ Turn way Normal ∷ AwaitBell side 7
    ∷ []

-- a train leaves the line by the signal of a lever
unfoldable pub off : ℕ → List Act
off lever = Pull lever ∷ Pass lever ∷ Put lever ∷ []

-- what a box does for a train that runs down
unfoldable pub down_acts : MadeBox → ℕ → List Act
down_acts Ash i = Bring i ∷ send Down 2 (class_code i)
down_acts Beech i = take_in Up Down 1 (class_code i) ++ send Down 2 (class_code i)
down_acts Cedar i = take_in Up Down 1 (class_code i) ++ off 2

-- what a box does for a train that runs up
unfoldable pub up_acts : MadeBox → ℕ → List Act
up_acts Ash i = take_in Down Up 3 (class_code i) ++ off 4
up_acts Beech i = take_in Down Up 3 (class_code i) ++ send Up 4 (class_code i)
up_acts Cedar i = Bring i ∷ send Up 4 (class_code i)

-- what a box does for train i
abbrev pub acts_for : MadeBox → ℕ → List Act
acts_for at i = if runs_down i then down_acts at i else up_acts at i

-- these acts at one moment
abbrev pub calls_at : ℕ → List Act → List Call
calls_at moment acts = map (λ act. record { moment = moment; act = act }) acts

-- the calls of a box for trains 1 to n, in order
unfoldable pub made_calls : MadeBox → ℕ → List Call
made_calls at zero = []
made_calls at (suc n) = made_calls at n ++ calls_at (train_moment (suc n)) (acts_for at (suc n))

-- the scripts of the three boxes for trains 1 to n, in box order
unfoldable pub made_scripts : ℕ → List Script
made_scripts n = record { box_no = 0; calls = made_calls Ash n } ∷ record { box_no = 1; calls = made_calls Beech n }
    ∷ record { box_no = 2; calls = made_calls Cedar n } ∷ []

-- scripts by which a line can be worked: one for each box, in box order
pub record AreLineScripts (plan : PlanFields) (scripts : List Script) : Type 0 where
  pub each : length scripts ≡ length plan.boxes
  pub own : (b : ℕ) (script : Script) → slice_get scripts b ≡ Some script → IsScriptOf plan b script
