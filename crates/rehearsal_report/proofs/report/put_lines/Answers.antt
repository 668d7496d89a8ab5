use Rattle.rehearsal_report.proofs.Reported.{report_put}
use Rattle.rehearsal_report.proofs.report.put_lines.Goals as goal

pub returns : goal.returns
returns c =
    report_put _ _ _ _ _ _ _ _ _ c.in_ok-put_heading.ensures c.in_ok-put_standings.ensures
    c.in_ok-put_refused.ensures c.in_ok-put_races.ensures
