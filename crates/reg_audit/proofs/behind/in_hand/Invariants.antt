use Rattle.std.proofs.Common.{◌≡◌, drop}
use Rattle.reg_audit.specs.Behind.{hand_from, in_hand}
use Rattle.reg_audit.proofs.behind.in_hand.Given as goal

abbrev pub invariant-loop-entry : goal.invariant-loop-entry
invariant-loop-entry l =
    hand_from l.plan l.box_no l.hand (drop l.entry-index l.entries) ≡ in_hand l.plan l.box_no l.entries
