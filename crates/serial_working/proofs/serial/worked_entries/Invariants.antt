use Rattle.std.proofs.Common.{◌≡◌, ◌+◌, ◌<◌, ◌++◌, ◌^◌}
use Rattle.line_law.specs.Lines.{IsLineOf}
use Rattle.line_law.specs.Serial.{AreLeft, count_left}
use Rattle.serial_working.specs.Serial.{rest_of}
use Rattle.serial_working.proofs.serial.worked_entries.Given as goal

abbrev pub invariant-loop-box_no : goal.invariant-loop-box_no
invariant-loop-box_no g l = record {
  line : IsLineOf l.plan l.plain;
  left : AreLeft l.plan l.plain.line l.roster;
  few : l.plain.calls + count_left l.roster < 2 ^ 32;
  told : l.entries.items ++ rest_of l.plan l.plain.line l.roster ≡ rest_of l.fn.plan l.fn.plain.line l.fn.roster;
}

abbrev pub decreases-loop-box_no : goal.decreases-loop-box_no
decreases-loop-box_no g l = count_left l.roster
