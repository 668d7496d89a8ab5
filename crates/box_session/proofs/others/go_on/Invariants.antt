use Rattle.line_law.specs.Serial.{count_left}
use Rattle.box_session.proofs.Rounds.{IsRound}
use Rattle.box_session.proofs.others.go_on.Given as goal

abbrev pub invariant-loop-box_no : goal.invariant-loop-box_no
invariant-loop-box_no l =
    IsRound l.plan l.fn.work.line l.fn.work.roster l.fn.entries.items l.work.line l.work.roster l.entries.items

abbrev pub decreases-loop-box_no : goal.decreases-loop-box_no
decreases-loop-box_no l = count_left l.work.roster
