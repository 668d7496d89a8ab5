use Rattle.std.proofs.Common.{List, IsTrue, ◌↔◌, subst, ◌∙◌}
use Rattle.std.specs.Prelude.{All}
use Rattle.locking_table.specs.declared.row.Row.{Row}
use Rattle.locking_table.specs.Meaning.{RowHolds}
use Rattle.locking_table.specs.Places.{at_ends}
use Rattle.locking_table.proofs.table.Table.all_hold.Goals as goal

pub returns : goal.returns
returns c =
    subst (λ (rows : List Row). IsTrue c.rows_hold.result ↔ All (RowHolds (at_ends c.args.positions.now)) rows)
    (c.deref.ensures.value ∙ c.self.view_is) c.rows_hold.ensures
