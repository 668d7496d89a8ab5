use Rattle.std.proofs.Common.{ℕ, ◌+◌, List, drop, string_bytes}
use Rattle.journal_records.specs.Objects.{PutsEntries}
use Rattle.journal_records.proofs.lines.put_entry_lines.Given as goal

abbrev pub invariant-loop-place : goal.invariant-loop-place
invariant-loop-place l =
    (new : List ℕ)
    → PutsEntries l.plan (l.number + l.place) (drop l.place l.entries) (string_bytes l.out) new
    → PutsEntries l.plan l.number l.entries (string_bytes l.fn.out) new
