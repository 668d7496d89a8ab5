use Rattle.line_law.specs.Serial.{count_left}
use Rattle.line_rehearsal.proofs.Rounds.{IsRound}
use Rattle.line_rehearsal.proofs.rehearsal.rehearsed_entries.Given as goal
use Rattle.serial_working.specs.Rosters.{calls_of_scripts, left_of}

abbrev pub invariant-loop-box_no : goal.invariant-loop-box_no
invariant-loop-box_no l = IsRound l.plan l.scripts l.until l.made l.line l.entries.items l.from

abbrev pub decreases-loop-box_no : goal.decreases-loop-box_no
decreases-loop-box_no l = count_left (left_of (calls_of_scripts l.scripts) l.made)
