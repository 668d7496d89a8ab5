use Rattle.std.proofs.Common.{◌≡◌, drop}
use Rattle.locking_table.specs.Sound.{all_differ}
use Rattle.plan_draft.proofs.box_lines.all_differ.Given as goal

abbrev pub invariant-loop-i : goal.invariant-loop-i
invariant-loop-i l = all_differ (drop l.i l.places) ≡ all_differ l.places
