use Rattle.std.proofs.Common.{◌<◌, ℕ, sym, ap, ◌∙◌, subst, arith}
use Rattle.atomic_table.specs.Table.{Me}
use Rattle.instrument_rule.specs.declared.view.View.{View}
use Rattle.instrument_rule.specs.Posts.{plan_of, view_of}
use Rattle.instrument_rule.proofs.Joins.{joins, settling}
use Rattle.instrument_rule.proofs.post.Post.join.Goals as goal

pub join_seat-requires : goal.join_seat-requires
join_seat-requires c = (
  c.requires.line.0,
  c.requires.line.1,
  c.args.other.bare,
  subst (λ (n : ℕ). 0 < n) (sym c.args.line.now.wide) (omega arith),
  joins (plan_of c.args.line.now) c.args.self.now.seat.id c.args.other.seat.id
      (view_of c.args.self.now) (view_of c.args.other) c.requires.sits.0,
)

pub load-requires : goal.load-requires
load-requires c = (
  c.join_seat.ensures.0 ∙ c.requires.line.0,
  subst (λ (n : ℕ). 0 < n) (sym c.args.line.now.wide) (omega arith),
  settling (plan_of c.args.line.now) c.args.line.now.table.shared.table_id.slots
      c.join_seat.new.seat.id c.join_seat.new.seat.me
      (ap (λ (m : Me (Unit {0}) View). m.0.plan) c.join_seat.ensures.2 ∙ c.requires.sits.0),
)
