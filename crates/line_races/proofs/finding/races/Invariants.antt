use Rattle.std.proofs.Common.{◌≡◌}
use Rattle.line_races.specs.Nearest.{races_before}
use Rattle.line_races.specs.Scans.{IsScanned}
use Rattle.line_races.proofs.finding.races.Given as goal

-- what is to be kept is kept, and the races so far are listed
abbrev pub invariant-loop-second : goal.invariant-loop-second
invariant-loop-second l = record {
  scanned : IsScanned l.plan l.entries l.second l.scan;
  listed : l.races.items ≡ races_before l.plan l.entries l.second;
}
