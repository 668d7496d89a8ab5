use Rattle.std.proofs.Common.{◌≡◌, ℕ, ◌<◌, get_or, length}
use Rattle.register_sheet.specs.Sheets.{no_sheet}
use Rattle.register_sheet.proofs.making.no_sheets.Given as goal

abbrev pub invariant-loop : goal.invariant-loop
invariant-loop l = record {
  count : length l.sheets.items ≡ l.counter;
  each : (b : ℕ) → b < l.counter → get_or l.sheets.items b no_sheet ≡ no_sheet;
}
