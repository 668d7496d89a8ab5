use Rattle.std.proofs.Common.{◌≡◌, ◌++◌, string_bytes, take}
use Rattle.line_report.specs.Journals.{entries_text}
use Rattle.line_report.proofs.journal.put_entry_lines.Given as goal

abbrev pub invariant-loop-place : goal.invariant-loop-place
invariant-loop-place l =
    string_bytes l.out ≡ string_bytes l.fn.out ++ entries_text l.plan l.number (take l.place l.entries)
