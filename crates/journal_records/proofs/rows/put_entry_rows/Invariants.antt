use Rattle.std.proofs.Common.{ℕ, ◌+◌, List, drop}
use Rattle.journal_records.specs.Rows.{PutsRows}
use Rattle.journal_records.proofs.rows.put_entry_rows.Given as goal

abbrev pub invariant-loop-place : goal.invariant-loop-place
invariant-loop-place l =
    (new : List ℕ)
    → PutsRows l.plan (l.number + l.place) (drop l.place l.entries) l.out.items new
    → PutsRows l.plan l.number l.entries l.fn.out.items new
