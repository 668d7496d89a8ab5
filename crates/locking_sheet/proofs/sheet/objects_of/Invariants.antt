use Rattle.std.proofs.Common.{◌≡◌, ◌++◌, drop}
use Rattle.locking_sheet.specs.Sheets.{objects_of}
use Rattle.locking_sheet.proofs.sheet.objects_of.Given as goal

abbrev pub invariant-loop-row : goal.invariant-loop-row
invariant-loop-row l = l.levers.items ++ objects_of (drop l.row-index l.rows) ≡ objects_of l.rows
