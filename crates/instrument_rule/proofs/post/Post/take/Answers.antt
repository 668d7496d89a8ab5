use Rattle.std.proofs.Common.{sym, subst, ◌<◌, ℕ, arith}
use Rattle.instrument_rule.specs.Posts.{plan_of}
use Rattle.instrument_rule.proofs.Keeps.{takes}
use Rattle.instrument_rule.proofs.post.Post.take.Goals as goal

pub compare_exchange-found-requires : goal.compare_exchange-found-requires
compare_exchange-found-requires c = (
  c.requires.line,
  subst (λ (n : ℕ). 0 < n) (sym c.args.line.now.wide) (omega arith),
  takes (plan_of c.args.line.now) c.args.line.now.table.shared.table_id.slots c.args.self.now.seat.id
      c.args.self.now.seat.me c.args.box_no c.requires.free.0.0 c.requires.free.1 c.requires.known,
)
