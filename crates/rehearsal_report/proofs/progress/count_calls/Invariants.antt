use Rattle.std.proofs.Common.{◌≡◌, ◌+◌, drop}
use Rattle.rehearsal_report.specs.Standings.{calls_in}
use Rattle.rehearsal_report.proofs.progress.count_calls.Given as goal

abbrev pub invariant-loop-script : goal.invariant-loop-script
invariant-loop-script l = l.count + calls_in (drop l.script-index l.scripts) ≡ calls_in l.scripts
