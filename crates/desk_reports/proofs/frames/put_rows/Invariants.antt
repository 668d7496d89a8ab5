use Rattle.std.proofs.Common.{◌≡◌, ◌+◌, ◌++◌, drop, string_bytes}
use Rattle.desk_reports.specs.Frames.{rows_text}
use Rattle.desk_reports.proofs.frames.put_rows.Given as goal

abbrev pub invariant-loop-place : goal.invariant-loop-place
invariant-loop-place l =
    string_bytes l.out ++ rows_text (l.place + 1) (drop l.place l.rows) ≡ string_bytes l.fn.out ++ rows_text 1 l.rows
