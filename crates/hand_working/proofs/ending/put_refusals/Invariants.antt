use Rattle.std.proofs.Common.{string_bytes}
use Rattle.hand_working.proofs.Refused.{TellsRest}
use Rattle.hand_working.proofs.ending.put_refusals.Given as goal

abbrev pub invariant-loop-entry : goal.invariant-loop-entry
invariant-loop-entry l = TellsRest l.plan l.entries l.entry-index (string_bytes l.fn.out) (string_bytes l.out)
