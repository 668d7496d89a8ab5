use Rattle.std.specs.Prelude.{All}
use Rattle.std.proofs.Common.{subst}
use Rattle.locking_table.specs.Meaning.{RowHolds}
use Rattle.locking_table.specs.Places.{at_ends}
use Rattle.lever_frame.specs.LeverFrames.{LeverFrameFields}
use Rattle.lever_frame.proofs.Holding.{rows_hold}
use Rattle.lever_frame.proofs.frame.LeverFrame.bridles.Goals as goal

pub returns-clause-holds : goal.returns-clause-holds
returns-clause-holds c =
    subst (λ (f : LeverFrameFields). All (RowHolds (at_ends f.ends)) f.rows) c.self.view_is
    (rows_hold c.seated_where_row_holds.ensures (at_ends c.self.inside.frame.ends) c.self.inside.frame.bridles
    c.self.invariant.made c.bridles.ensures.seated)
