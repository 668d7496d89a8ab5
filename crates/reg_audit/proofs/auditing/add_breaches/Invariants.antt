use Rattle.std.proofs.Common.{◌≡◌, ◌++◌, drop}
use Rattle.std.specs.Prelude.{filter, map}
use Rattle.reg_audit.specs.Marks.{breaches_at, is_broken}
use Rattle.reg_audit.proofs.InOrder.{breach_by}
use Rattle.reg_audit.proofs.auditing.add_breaches.Given as goal

abbrev pub invariant-loop-rule : goal.invariant-loop-rule
invariant-loop-rule l =
    l.found.items
    ++ map (breach_by l.number) (filter (is_broken l.plan l.marks l.held l.deed) (drop l.rule-index l.rule-items))
    ≡ l.fn.found.items ++ breaches_at l.plan l.number l.marks l.held l.deed
