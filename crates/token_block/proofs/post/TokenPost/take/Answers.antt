use Rattle.std.proofs.Common.{sym, subst, ◌<◌, ℕ, arith}
use Rattle.token_block.proofs.Keeps.{takes}
use Rattle.token_block.proofs.post.TokenPost.take.Goals as goal

pub compare_exchange-requires : goal.compare_exchange-requires
compare_exchange-requires c = (
  c.requires.line,
  subst (λ (n : ℕ). 0 < n) (sym c.args.line.now.wide) (omega arith),
  takes c.args.line.now.table.shared.key c.args.line.now.table.shared.table_id.slots c.args.self.now.seat.id
      c.args.self.now.seat.me c.args.box_no c.requires.free.0.0 c.requires.free.0.1 c.requires.free.1
      c.requires.known,
)
