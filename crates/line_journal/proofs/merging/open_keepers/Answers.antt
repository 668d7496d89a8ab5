use Rattle.line_journal.proofs.KeepersIn.{keepers_more}
use Rattle.line_journal.proofs.merging.open_keepers.Goals as goal

pub loop-box_no-preserved : goal.loop-box_no-preserved
loop-box_no-preserved c =
    keepers_more c.loop-box_no.invariant c.of_box.ensures c.in_ok-behind.ensures c.in_ok-append.ensures.items
