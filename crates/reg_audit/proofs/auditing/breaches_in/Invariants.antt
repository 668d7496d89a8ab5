use Rattle.std.proofs.Common.{take}
use Rattle.reg_audit.specs.Auditors.{HasAudited}
use Rattle.reg_audit.proofs.auditing.breaches_in.Given as goal

abbrev pub invariant-loop-entry : goal.invariant-loop-entry
invariant-loop-entry l = record {
  audited : HasAudited l.plan (take l.entry-index l.entries) l.auditor;
}
