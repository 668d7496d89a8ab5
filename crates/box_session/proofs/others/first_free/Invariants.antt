use Rattle.std.proofs.Common.{◌≡◌}
use Rattle.line_law.specs.Serial.{first_free}
use Rattle.line_rehearsal.proofs.Free.{free_from}
use Rattle.box_session.proofs.others.first_free.Given as goal

abbrev pub invariant-loop-box_no : goal.invariant-loop-box_no
invariant-loop-box_no l =
    free_from l.plan l.work.line.line l.work.roster l.box_no ≡ first_free l.plan l.work.line.line 0 l.work.roster
