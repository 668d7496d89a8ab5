use Rattle.std.proofs.Common.{◌≡◌, length}
use Rattle.line_report.specs.Reading.{Tells, entries_left}
use Rattle.line_report.proofs.NextEntry.{kept_then}
use Rattle.line_report.proofs.reading.keep_entries.Given as goal

abbrev pub invariant-loop-kept : goal.invariant-loop-kept
invariant-loop-kept l = record {
  read : entries_left l.fn.reader ≡ kept_then l.kept.items (entries_left l.reader);
  told : Tells l.fn.reader l.kept.items l.reader;
}

abbrev pub decreases-loop-kept : goal.decreases-loop-kept
decreases-loop-kept l = length l.reader.rest
