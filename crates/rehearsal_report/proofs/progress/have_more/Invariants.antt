use Rattle.std.proofs.Common.{◌≡◌, ◌+◌, drop}
use Rattle.rehearsal_report.specs.Standings.{calls_in}
use Rattle.rehearsal_report.proofs.progress.have_more.Given as goal

abbrev pub invariant-loop-script : goal.invariant-loop-script
invariant-loop-script l = l.left + calls_in l.scripts ≡ l.made + calls_in (drop l.script-index l.scripts)
