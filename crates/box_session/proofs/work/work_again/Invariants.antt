use Rattle.std.proofs.Common.{take}
use Rattle.line_law.specs.Lines.{IsLineOf}
use Rattle.serial_working.specs.Rosters.{calls_of_scripts}
use Rattle.box_session.specs.Works.{IsWorkedTo}
use Rattle.box_session.proofs.work.work_again.Given as goal

abbrev pub invariant-loop-entry : goal.invariant-loop-entry
invariant-loop-entry l = record {
  line : IsLineOf l.plan l.work.line;
  worked : IsWorkedTo l.plan (calls_of_scripts l.scripts) (take l.entry-index l.journal) l.work.line l.work.roster;
}
