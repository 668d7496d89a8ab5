use Rattle.std.proofs.Common.{◌≡◌, ◌+◌, ◌≤◌}
use Rattle.std.specs.Vec.{vec_capacity, vec_len}
use Rattle.line_law.specs.Serial.{count_left}
use Rattle.line_service.specs.Services.{IsWorked, gone_on}
use Rattle.line_service.proofs.Kept.{shown}
use Rattle.line_service.proofs.others.go_on.Given as goal

abbrev pub invariant-loop-box_no : goal.invariant-loop-box_no
invariant-loop-box_no l = record {
  worked : IsWorked l.plan l.entries.items l.work.roster l.work.line;
  goes : gone_on (shown l.plan l.entries.items l.work.roster)
      ≡ gone_on (shown l.plan l.fn.entries.items l.fn.work.roster);
  room : vec_len l.entries + count_left l.work.roster ≤ vec_capacity l.entries;
}

abbrev pub decreases-loop-box_no : goal.decreases-loop-box_no
decreases-loop-box_no l = count_left l.work.roster
