use Rattle.std.proofs.Common.{List, ap}
use Rattle.line_law.specs.declared.call.Entry.{Entry}
use Rattle.line_report.specs.Journals.{entries_text}
use Rattle.line_report.specs.Refusals.{refused_entries}
use Rattle.line_runs.proofs.Copied.{box_ahead, fewer_ahead, left_ahead, line_ahead, spelled_ahead, told_ahead}
use Rattle.line_runs.proofs.copying.copy_entries.Goals as goal

pub bounds-lines-entry : goal.bounds-lines-entry
bounds-lines-entry c = box_ahead c.loop-next.invariant.spelled c.loop-next.invariant.left c.in-Some.ensures

pub put_entry-requires-clause-told : goal.put_entry-requires-clause-told
put_entry-requires-clause-told c =
    told_ahead _ c.meets_conditions.ensures c.loop-next.invariant.spelled c.loop-next.invariant.left c.in-Some.ensures
    c.next_told-told.ensures.told

pub loop-next-preserved : goal.loop-next-preserved
loop-next-preserved c =
    let plan = c.args.plan.now in
    record {
      journal = line_ahead _ _ _ c.in_ok-put_entry.ensures.journal c.loop-next.invariant.journal
          (ap (λ (es : List Entry). entries_text plan c.loop-next.next es) c.in-Some.ensures);
      refused = line_ahead _ _ _ c.in_ok-put_entry.ensures.refused c.loop-next.invariant.refused
          (ap (λ (es : List Entry). refused_entries plan c.loop-next.next es) c.in-Some.ensures);
      numbers = fewer_ahead _ c.in-Some.ensures c.loop-next.invariant.numbers;
      spelled = (spelled_ahead c.loop-next.invariant.spelled c.in-Some.ensures).1;
      left = left_ahead _ c.meets_conditions.ensures c.loop-next.invariant.spelled c.loop-next.invariant.left
          c.in-Some.ensures c.next_told-told.ensures.rest;
    }
