use Rattle.std.proofs.Common.{◌≡◌, ℕ, ◌<◌, drop, get_or, length}
use Rattle.register_sheet.specs.Sheets.{no_sheet, sheet_from, sheet_of}
use Rattle.register_sheet.proofs.making.sheets_of.Given as goal

abbrev pub invariant-loop-number : goal.invariant-loop-number
invariant-loop-number l = record {
  count : length l.sheets.items ≡ length l.plan.boxes;
  each : (b : ℕ) → b < length l.plan.boxes
      → sheet_from l.plan b l.number (get_or l.sheets.items b no_sheet) (drop l.number l.entries)
      ≡ sheet_of l.plan b l.entries;
}
