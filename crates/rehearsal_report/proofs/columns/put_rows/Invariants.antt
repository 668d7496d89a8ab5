use Rattle.std.proofs.Common.{take, string_bytes}
use Rattle.rehearsal_report.specs.Reports.{Reports}
use Rattle.rehearsal_report.proofs.columns.put_rows.Given as goal

abbrev pub invariant-loop-row : goal.invariant-loop-row
invariant-loop-row l = Reports (take l.row-index l.rows) (string_bytes l.fn.out) (string_bytes l.out)
