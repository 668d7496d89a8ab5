use Rattle.std.proofs.Common.{sym, subst, ◌+◌}
use Rattle.line_report.specs.declared.sections.HeldTrains.{HeldTrains}
use Rattle.line_report.proofs.MostTrains.{IsCounted, counted_first, counted_last, counted_more}
use Rattle.line_report.proofs.Turns.{no_entry}
use Rattle.line_report.proofs.sections.most_in.Goals as goal

pub loop-entry-init : goal.loop-entry-init
loop-entry-init c = counted_first c.args.plan.now c.args.entries.now c.args.section c.meets_conditions.ensures
    c.requires.section c.requires.legal

pub loop-entry-preserved : goal.loop-entry-preserved
loop-entry-preserved c =
    subst (λ (trains : HeldTrains). IsCounted c.args.plan.now c.args.entries.now c.args.section
    (c.loop-entry.entry-index + 1) trains) (sym c.after-trains.ensures)
    (counted_more c.args.plan.now c.args.entries.now c.args.section c.loop-entry.entry-index no_entry
    c.loop-entry.trains c.loop-entry-test.true c.loop-entry.invariant)

pub returns : goal.returns
returns c = counted_last c.args.plan.now c.args.entries.now c.args.section c.loop-entry.entry-index c.loop-entry.trains
    c.loop-entry-test.false c.loop-entry.invariant
