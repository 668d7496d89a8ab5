use Rattle.std.proofs.Common.{◌-◌, ◌<◌, ◌^◌, List, length, rules, subst, sym}
use Rattle.locking_table.specs.declared.row.Row.{Row}
use Rattle.locking_table.proofs.Indexes.{table_alike, table_more}
use Rattle.locking_table.proofs.table.Table.push.Goals as goal

pub invariant_of-self-in-Ok : goal.invariant_of-self-in-Ok
invariant_of-self-in-Ok c =
    table_more c.self.inside.rows.items c.push.new.self.items c.args.row c.index.result.now c.self.inside.uses.items
    c.file_row.new.uses.items c.len-number.result c.self.invariant c.requires.row
    (subst (λ (rows : List Row). length rows < 2 ^ 32 - 1) (sym c.self.view_is) c.requires.few)
    (search rules) (search rules) c.index.ensures c.in-Ok.ensures.ok

pub invariant_of-self-in-Err : goal.invariant_of-self-in-Err
invariant_of-self-in-Err c =
    table_alike c.self.inside.rows.items c.push.new.self.items c.pop-row.new.self.items c.args.row
    c.self.inside.uses.items c.file_row.new.uses.items c.push.new.self.len c.self.invariant (search rules)
    (search rules) c.pop-row.ensures.rest c.in-Err.ensures.err
