use Rattle.std.proofs.Common.{map, string_bytes, take}
use Rattle.rehearsal_report.specs.ReportLines.{race_line}
use Rattle.rehearsal_report.specs.Reports.{Reports}
use Rattle.rehearsal_report.proofs.differences.put_each_race.Given as goal

abbrev pub invariant-loop-race : goal.invariant-loop-race
invariant-loop-race l =
    Reports
    (map (race_line l.account.plan.now l.account.texts.now l.account.rehearsal.now.journal.entries)
    (take l.race-index l.races)) (string_bytes l.fn.out) (string_bytes l.out)
