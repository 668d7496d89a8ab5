-- The numbers that a box's plan names are of the box.
use Rattle.std.specs.Prelude.{◌≡◌, ℕ, ◌<◌, ◌≤◌, Some, All, IfSome, length}
use Rattle.block_words.specs.declared.Way.{Way}
use Rattle.locking_table.specs.Places.{IsLever}
use Rattle.locking_table.specs.Sound.{RowFits}
use Rattle.line_plan.specs.Frames.{BoxFields, berth_of, frame_size, signal_of, track_of}
use Rattle.line_plan.specs.declared.berth.Berth.{Berth}
use Rattle.line_plan.specs.declared.signal.Signal.{Signal}
use Rattle.line_law.specs.Trains.{end_of}

-- a frame of so many levers and a box of so many places have each lever and each place that the berth names; a
-- permissive line holds three trains at most
pub record BerthFits (levers places : ℕ) (berth : Berth) : Type 0 where
  pub place : berth.place < places
  pub homes : All (IsLever levers) berth.homes
  pub clearing : All (λ place. place < places) berth.clearing
  pub few : IfSome berth.permissive (λ n. n ≤ 3)

-- the same of a signal
pub record SignalFits (levers places : ℕ) (signal : Signal) : Type 0 where
  pub lever : IsLever levers signal.lever
  pub from : signal.from < places
  pub over : All (λ place. place < places) signal.over
  pub to : All (λ place. place < places) (end_of signal.to)

-- the same of the whole plan of a box; every plan's boxes are so
pub record IsSound (box_plan : BoxFields) : Type 0 where
  pub rows : All (RowFits (frame_size box_plan.levers)) box_plan.rows
  pub signal : (lever : ℕ) (signal : Signal) → signal_of box_plan lever ≡ Some signal
      → SignalFits (frame_size box_plan.levers) (length box_plan.places) signal
  pub track : (lever : ℕ) → All (λ place. place < length box_plan.places) (track_of box_plan lever)
  pub berth : (way : Way) (berth : Berth) → berth_of box_plan way ≡ Some berth
      → BerthFits (frame_size box_plan.levers) (length box_plan.places) berth
