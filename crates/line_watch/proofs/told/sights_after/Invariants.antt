use Rattle.std.proofs.Common.{take}
use Rattle.line_watch.specs.Shown.{IsRoundAfter}
use Rattle.line_watch.proofs.told.sights_after.Given as goal

abbrev pub invariant-loop-entry : goal.invariant-loop-entry
invariant-loop-entry l = IsRoundAfter l.plan (take l.entry-index l.entries) l.sights.items
