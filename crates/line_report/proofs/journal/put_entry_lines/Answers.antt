use Rattle.line_report.proofs.Entries.{more_entries}
use Rattle.line_report.proofs.journal.put_entry_lines.Goals as goal

pub loop-place-preserved : goal.loop-place-preserved
loop-place-preserved c =
    more_entries c.args.plan.now c.args.number c.args.entries.now c.loop-place.place _ _ _ _ c.loop-place-test.true
    c.loop-place.invariant c.in_ok-put_line.ensures
