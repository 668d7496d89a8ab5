use Rattle.std.proofs.Common.{List, ap, subst, sym, ◌∙◌}
use Rattle.std.specs.Prelude.{All}
use Rattle.locking_table.specs.declared.row.Row.{Row}
use Rattle.locking_table.specs.Meaning.{RowHolds, holder_of}
use Rattle.locking_table.specs.Places.{at_ends}
use Rattle.locking_table.proofs.Indexes.{uses_tell, uses_within}
use Rattle.locking_table.proofs.table.Table.holder_among_its_rows.Goals as goal

pub first_of-requires-clause-numbers : goal.first_of-requires-clause-numbers
first_of-requires-clause-numbers c =
    uses_within c.self.inside.rows.items c.deref.result.now c.self.inside.uses.items c.deref-2.result.now c.args.lever
    c.uses_of.result.now c.self.invariant.index c.deref.ensures.value c.deref-2.ensures.value c.uses_of.ensures

pub returns : goal.returns
returns c =
    c.first_of.ensures
    ∙ (uses_tell c.args.positions.now c.self.inside.rows.items c.deref.result.now c.self.inside.uses.items
    c.deref-2.result.now c.args.lever c.uses_of.result.now c.self.invariant.index c.deref.ensures.value
    c.deref-2.ensures.value c.uses_of.ensures
    (subst (λ (rows : List Row). All (RowHolds (at_ends c.args.positions.now)) rows) (sym c.self.view_is)
    c.requires.hold)
    ∙ ap (λ (rows : List Row). holder_of c.args.positions.now c.args.lever rows) c.self.view_is)
