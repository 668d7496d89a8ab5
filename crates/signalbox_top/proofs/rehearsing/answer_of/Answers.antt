use Rattle.std.proofs.Common.{◌∙◌, ◌<◌, List, All, length, ap, sym, subst}
use Rattle.line_law.specs.declared.call.Entry.{Entry}
use Rattle.signalbox_top.specs.Statuses.{status_of}
use Rattle.signalbox_top.proofs.Reported.{entries_there, journal_spelled}
use Rattle.signalbox_top.proofs.rehearsing.answer_of.Goals as goal

pub races-requires : goal.races-requires
races-requires c =
    let plan = c.args.run.now.plan in
    let entries = c.args.rehearsal.now.journal.entries in
    let spelled = journal_spelled plan c.args.run.now.scripts.items entries c.meets_conditions.ensures
    c.requires.scripts c.requires.rehearsed.legal c.requires.rehearsed.begins in
    subst (λ (es : List Entry). All (λ e. e.box_no < length plan.boxes) es) (sym c.as_slice.ensures)
    (entries_there plan entries spelled)

pub returns-clause-answer : goal.returns-clause-answer
returns-clause-answer c = record {
  rehearsal = c.args.rehearsal.now;
  rehearsed = c.requires.rehearsed;
  state = c.requires.state;
  races = c.in_ok-races.races.items;
  are_races = rw c.as_slice.ensures at c.in_ok-races.ensures;
  is_text = rw c.deref.ensures.value at c.in_ok-text.ensures;
  is_status = c.status_of-status.ensures.is
      ∙ ap status_of (rw (c.deref-2.ensures.value, c.deref-3.ensures.value) at c.has_found.ensures);
}
