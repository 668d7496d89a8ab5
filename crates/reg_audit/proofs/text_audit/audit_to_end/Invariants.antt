use Rattle.std.proofs.Common.{◌≡◌, List, length}
use Rattle.line_law.specs.declared.call.Entry.{Entry}
use Rattle.line_report.specs.Reading.{entries_left}
use Rattle.line_report.specs.Verdicts.{heard_all}
use Rattle.line_report.proofs.NextEntry.{kept_then}
use Rattle.reg_audit.proofs.HeardAudited.{IsAuditing}
use Rattle.reg_audit.proofs.text_audit.audit_to_end.Given as goal

abbrev pub invariant-loop-hearing : goal.invariant-loop-hearing
invariant-loop-hearing l = record {
  heard : (es : List Entry) × (entries_left l.fn.hearing.reader ≡ kept_then es (entries_left l.hearing.reader))
      × (l.hearing.judge ≡ heard_all l.fn.hearing.judge es) × IsAuditing l.plan es l.hearing.judge l.auditor;
}

abbrev pub decreases-loop-hearing : goal.decreases-loop-hearing
decreases-loop-hearing l = length l.hearing.reader.rest
