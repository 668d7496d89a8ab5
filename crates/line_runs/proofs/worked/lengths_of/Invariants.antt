use Rattle.std.proofs.Common.{◌≡◌, take}
use Rattle.line_runs.specs.Worked.{lengths_of}
use Rattle.line_runs.proofs.worked.lengths_of.Given as goal

abbrev pub invariant-loop-script : goal.invariant-loop-script
invariant-loop-script l = record {
  made : l.lengths.items ≡ lengths_of (take l.script-index l.scripts);
}
