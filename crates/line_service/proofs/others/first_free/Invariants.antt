use Rattle.std.proofs.Common.{◌≡◌}
use Rattle.line_law.specs.History.{state_of}
use Rattle.line_law.specs.Serial.{first_free}
use Rattle.line_rehearsal.proofs.Free.{free_from}
use Rattle.line_service.proofs.others.first_free.Given as goal

abbrev pub invariant-loop-box_no : goal.invariant-loop-box_no
invariant-loop-box_no l =
    free_from l.plan (state_of l.plan l.entries) l.work.roster l.box_no
    ≡ first_free l.plan (state_of l.plan l.entries) 0 l.work.roster
