use Rattle.std.proofs.Common.{◌≡◌, ◌+◌, take, drop}
use Rattle.line_law.specs.History.{part_of}
use Rattle.line_law.specs.Serial.{AreCalls}
use Rattle.signalman_seats.specs.Men.{IsOf}
use Rattle.line_working.specs.Working.{Worked, moment_after}
use Rattle.instrument_rule.specs.Posts.{plan_of}
use Rattle.line_working.proofs.working.work.Given as goal

abbrev pub invariant-loop-i : goal.invariant-loop-i
invariant-loop-i g l = record {
  of_line : IsOf l.line.table.shared.table_id (plan_of l.line) l.man;
  box_no : l.man.box_no ≡ l.initial.man.box_no;
  rest : AreCalls (plan_of l.line) l.man.box_no l.man.moment (drop l.i l.script.calls);
  entries : l.man.entries ≡ part_of l.initial.man.box_no l.man.view.seen;
  spare : l.man.spare + l.i ≡ l.initial.man.spare;
  moment : l.man.moment ≡ moment_after l.initial.man.moment (take l.i l.script.calls);
  worked : Worked (plan_of l.line) l.initial.man.box_no (take l.i l.script.calls) l.looks l.initial.man.view
      l.man.view;
}
