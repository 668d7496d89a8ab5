use Rattle.frame_report.specs.Report.{AreLeverReports}
use Rattle.frame_report.proofs.collecting.lever_reports.Given as goal

abbrev pub invariant-loop-i : goal.invariant-loop-i
invariant-loop-i l = AreLeverReports l.walk l.numbers l.i l.reports.items
