use Rattle.std.proofs.Common.{◌<◌, ℕ, sym, subst, arith}
use Rattle.token_block.proofs.Joins.{splits}
use Rattle.token_block.proofs.post.TokenPost.split.Goals as goal

pub split_seat-requires : goal.split_seat-requires
split_seat-requires c = (
  c.requires.line,
  subst (λ (n : ℕ). 0 < n) (sym c.args.line.now.wide) (omega arith),
  splits c.args.line.now.table.shared.key c.args.self.now.seat.id c.args.self.now.seat.me.0 c.requires.sits.0,
)
