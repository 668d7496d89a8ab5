use Rattle.std.proofs.Common.{◌≡◌}
use Rattle.line_law.specs.Serial.{next_box}
use Rattle.serial_working.proofs.NextBox.{found_from}
use Rattle.serial_working.proofs.serial.next_box.Given as goal

abbrev pub invariant-loop-box_no : goal.invariant-loop-box_no
invariant-loop-box_no l =
    found_from l.plan l.plain.line l.roster l.box_no l.waiting ≡ next_box l.plan l.plain.line l.roster
