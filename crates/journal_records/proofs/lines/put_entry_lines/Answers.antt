use Rattle.journal_records.proofs.LinesPut.{puts_here}
use Rattle.journal_records.proofs.lines.put_entry_lines.Goals as goal

pub loop-place-preserved : goal.loop-place-preserved
loop-place-preserved c new more =
    c.loop-place.invariant new
    (puts_here c.args.plan.now c.args.number c.args.entries.now c.loop-place.place _ _ _ new c.loop-place-test.true
    c.in_ok-put_entry_line.ensures more)
