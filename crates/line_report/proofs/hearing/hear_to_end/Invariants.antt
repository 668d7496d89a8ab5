use Rattle.std.proofs.Common.{◌≡◌, List, length}
use Rattle.line_law.specs.declared.call.Entry.{Entry}
use Rattle.line_report.specs.Reading.{entries_left}
use Rattle.line_report.specs.Verdicts.{heard_all}
use Rattle.line_report.proofs.NextEntry.{kept_then}
use Rattle.line_report.proofs.hearing.hear_to_end.Given as goal

abbrev pub invariant-loop : goal.invariant-loop
invariant-loop l = record {
  heard : (es : List Entry) × (entries_left l.fn.hearing.reader ≡ kept_then es (entries_left l.hearing.reader))
      × (l.hearing.judge ≡ heard_all l.fn.hearing.judge es);
}

abbrev pub decreases-loop : goal.decreases-loop
decreases-loop l = length l.hearing.reader.rest
