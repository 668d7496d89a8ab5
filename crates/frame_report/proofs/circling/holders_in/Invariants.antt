use Rattle.std.proofs.Common.{◌≡◌, ◌++◌, drop}
use Rattle.frame_report.specs.Report.{holders_in}
use Rattle.frame_report.proofs.circling.holders_in.Given as goal

abbrev pub invariant-loop-report : goal.invariant-loop-report
invariant-loop-report l = l.holders.items ++ holders_in (drop l.report-index l.reports) ≡ holders_in l.reports
