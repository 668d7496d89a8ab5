use Rattle.serial_working.specs.Rosters.{calls_of_scripts}
use Rattle.box_session.proofs.After.{next_may, next_more, next_own, next_there, worked_next}
use Rattle.box_session.proofs.work.work_again.Goals as goal

pub loop-entry-init : goal.loop-entry-init
loop-entry-init c = record { line = c.in_ok-work.ensures.line; worked = c.in_ok-work.ensures.worked }

pub work_entry-requires-clause-call : goal.work_entry-requires-clause-call
work_entry-requires-clause-call c =
    next_may c.args.plan.now (calls_of_scripts c.args.scripts.now) c.args.own_box c.args.journal.now
    c.loop-entry.entry-index c.loop-entry.work.line c.loop-entry.work.roster _ c.requires.legal c.requires.turns
    c.requires.idle c.loop-entry.invariant.worked c.loop-entry-test.true

pub work_entry-requires-clause-own : goal.work_entry-requires-clause-own
work_entry-requires-clause-own c =
    next_own c.args.plan.now (calls_of_scripts c.args.scripts.now) c.args.own_box c.args.journal.now
    c.loop-entry.entry-index c.loop-entry.work.line c.loop-entry.work.roster _ c.requires.legal c.requires.turns
    c.requires.idle c.loop-entry.invariant.worked c.loop-entry-test.true

pub work_entry-requires-clause-there : goal.work_entry-requires-clause-there
work_entry-requires-clause-there c =
    next_there c.args.plan.now (calls_of_scripts c.args.scripts.now) c.args.own_box c.args.journal.now
    c.loop-entry.entry-index c.loop-entry.work.line c.loop-entry.work.roster _ c.requires.legal c.requires.turns
    c.requires.idle c.loop-entry.invariant.worked c.loop-entry-test.true

pub work_entry-requires-clause-left : goal.work_entry-requires-clause-left
work_entry-requires-clause-left c =
    next_more c.args.plan.now (calls_of_scripts c.args.scripts.now) c.args.own_box c.args.journal.now
    c.loop-entry.entry-index c.loop-entry.work.line c.loop-entry.work.roster _ c.requires.legal c.requires.turns
    c.requires.idle c.loop-entry.invariant.worked c.loop-entry-test.true

pub loop-entry-preserved : goal.loop-entry-preserved
loop-entry-preserved c = record {
  line = c.work_entry.ensures.line;
  worked = worked_next c.args.plan.now (calls_of_scripts c.args.scripts.now) c.args.journal.now
      c.loop-entry.entry-index c.loop-entry.work.line _ c.loop-entry.work.roster _ _ c.loop-entry.invariant.worked
      c.work_entry.ensures.after c.loop-entry-test.true;
}
