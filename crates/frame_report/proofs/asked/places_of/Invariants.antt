use Rattle.std.proofs.Common.{◌≡◌, All, length, take, None}
use Rattle.locking_table.specs.Places.{IsLever}
use Rattle.frame_report.specs.States.{missing, places_of}
use Rattle.frame_report.proofs.asked.places_of.Given as goal

abbrev pub invariant-loop-lever : goal.invariant-loop-lever
invariant-loop-lever l = record {
  none : missing l.numbers (take l.lever-index l.levers) ≡ None;
  same : l.places.items ≡ places_of l.numbers (take l.lever-index l.levers);
  each : All (IsLever (length l.numbers)) l.places.items;
}
