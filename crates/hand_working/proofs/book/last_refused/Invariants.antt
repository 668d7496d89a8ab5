use Rattle.std.proofs.Common.{IfSome}
use Rattle.script_text.specs.Entries.{IsSpelled}
use Rattle.hand_working.proofs.book.last_refused.Given as goal

abbrev pub invariant-loop-entry : goal.invariant-loop-entry
invariant-loop-entry l = IfSome l.last (λ entry. IsSpelled l.duty.session.plan entry)
