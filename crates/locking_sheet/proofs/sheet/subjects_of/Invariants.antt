use Rattle.std.proofs.Common.{◌≡◌, ◌++◌, drop}
use Rattle.locking_sheet.specs.Sheets.{subjects_of}
use Rattle.locking_sheet.proofs.sheet.subjects_of.Given as goal

abbrev pub invariant-loop-row : goal.invariant-loop-row
invariant-loop-row l = l.levers.items ++ subjects_of (drop l.row-index l.rows) ≡ subjects_of l.rows
