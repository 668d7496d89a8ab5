use Rattle.std.proofs.Common.{◌<◌, ℕ, sym, ap, ◌∙◌, subst, arith}
use Rattle.atomic_table.specs.Table.{Me}
use Rattle.token_block.specs.declared.view.TokenView.{TokenView}
use Rattle.token_block.proofs.Joins.{joins, settling}
use Rattle.token_block.proofs.post.TokenPost.join.Goals as goal

pub join_seat-requires : goal.join_seat-requires
join_seat-requires c = (
  c.requires.line.0,
  c.requires.line.1,
  c.args.other.bare,
  subst (λ (n : ℕ). 0 < n) (sym c.args.line.now.wide) (omega arith),
  joins c.args.line.now.table.shared.key c.args.self.now.seat.id c.args.other.seat.id
      c.args.self.now.seat.me.0 c.args.other.seat.me.0 c.requires.sits.0,
)

pub load-requires : goal.load-requires
load-requires c = (
  c.join_seat.ensures.0 ∙ c.requires.line.0,
  subst (λ (n : ℕ). 0 < n) (sym c.args.line.now.wide) (omega arith),
  settling c.args.line.now.table.shared.key c.args.line.now.table.shared.table_id.slots
      c.join_seat.new.seat.id c.join_seat.new.seat.me
      (ap (λ (m : Me (Unit {0}) TokenView). m.0.opened) c.join_seat.ensures.2 ∙ c.requires.sits.0),
)
