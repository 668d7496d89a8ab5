use Rattle.std.proofs.Common.{◌≡◌, replicate}
use Rattle.line_races.specs.Scans.{both_normal}
use Rattle.line_races.proofs.shown.Shown.new.Given as goal

abbrev pub invariant-loop : goal.invariant-loop
invariant-loop l = l.instruments.items ≡ replicate l.counter both_normal
