use Rattle.std.proofs.Common.{◌≡◌}
use Rattle.line_rehearsal.proofs.Free.{free_from}
use Rattle.line_rehearsal.proofs.search.first_free.Given as goal
use Rattle.serial_working.specs.Rosters.{calls_of_scripts, left_of}

abbrev pub invariant-loop-box_no : goal.invariant-loop-box_no
invariant-loop-box_no l =
    free_from l.plan l.line.line (left_of (calls_of_scripts l.scripts) l.made) l.box_no
    ≡ free_from l.plan l.line.line (left_of (calls_of_scripts l.scripts) l.made) l.from
