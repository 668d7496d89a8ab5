use Rattle.std.proofs.Common.{◌++◌, [], ◌∷◌, List, sym, ap, subst, ◌∙◌}
use Rattle.line_law.specs.declared.call.Entry.{Entry}
use Rattle.line_report.specs.Reading.{Tells, TellsNext, entries_left}
use Rattle.line_report.proofs.NextEntry.{keeps_on, kept_then, runs_out, tells_more}
use Rattle.line_report.proofs.reading.keep_entries.Goals as goal

pub loop-kept-preserved : goal.loop-kept-preserved
loop-kept-preserved c =
    let tells : TellsNext c.loop-kept.reader c.next_entry.new.self c.next_entry.new.entry =
    rw c.if-branch.true at c.in_ok-next_entry.ensures.gives in
    let kept = c.in_ok-push.ensures.items in
    record {
      read = keeps_on c.loop-kept.reader c.next_entry.new.self _ c.loop-kept.kept.items c.next_entry.new.entry tells
          c.loop-kept.invariant.read
          ∙ ap (λ (ks : List Entry). kept_then ks (entries_left c.next_entry.new.self)) (sym kept);
      told = subst (λ (ks : List Entry). Tells c.args.reader.now ks c.next_entry.new.self) (sym kept)
          (tells_more c.args.reader.now c.loop-kept.reader c.next_entry.new.self c.loop-kept.kept.items
          c.next_entry.new.entry c.loop-kept.invariant.told tells);
    }

pub returns-in_err-push-clause-memory : goal.returns-in_err-push-clause-memory
returns-in_err-push-clause-memory c =
    let tells : TellsNext c.loop-kept.reader c.next_entry.new.self c.next_entry.new.entry =
    rw c.if-branch.true at c.in_ok-next_entry.ensures.gives in
    let stopped = c.from_residual-in_err-push.ensures in
    runs_out c.args.reader.now c.next_entry.new.self c.push.new.self.items _ stopped.0 stopped.1 (
      c.next_entry.new.entry,
      subst (λ (ks : List Entry). Tells c.args.reader.now (ks ++ c.next_entry.new.entry ∷ []) c.next_entry.new.self)
          (sym c.in_err-push.ensures.items)
          (tells_more c.args.reader.now c.loop-kept.reader c.next_entry.new.self c.loop-kept.kept.items
          c.next_entry.new.entry c.loop-kept.invariant.told tells),
    )
