use Rattle.rehearsal_report.proofs.RaceLines.{races_more}
use Rattle.rehearsal_report.proofs.differences.put_each_race.Goals as goal
use Rattle.rehearsal_report.specs.ReportLines.{race_line}

pub loop-race-preserved : goal.loop-race-preserved
loop-race-preserved c =
    races_more
    (race_line c.args.account.now.plan.now c.args.account.now.texts.now
    c.args.account.now.rehearsal.now.journal.entries) c.args.races.now c.loop-race.race-index _ _ _ _
    c.loop-race-test.true c.loop-race.invariant c.in_ok-put_race.ensures
