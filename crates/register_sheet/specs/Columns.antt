-- The columns of a register, in their order.
use Rattle.std.specs.Prelude.{ℕ}
use Rattle.register_sheet.specs.declared.spot.Column.{Column}
use Rattle.register_sheet.specs.declared.spot.Column.TheVariants as columns

-- a column's number
abbrev pub column_no : Column → ℕ
column_no columns.Received = 0
column_no columns.Accepted = 1
column_no columns.EnteringReceived = 2
column_no columns.Arrived = 3
column_no columns.OutGiven = 4
column_no columns.Offered = 5
column_no columns.AcceptedAhead = 6
column_no columns.EnteringGiven = 7
column_no columns.Departed = 8
column_no columns.OutReceived = 9
