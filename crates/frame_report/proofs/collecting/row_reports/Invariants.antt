use Rattle.frame_report.specs.Report.{AreRowReports}
use Rattle.frame_report.proofs.collecting.row_reports.Given as goal

abbrev pub invariant-loop-at : goal.invariant-loop-at
invariant-loop-at l = AreRowReports l.walk l.at l.reports.items
