use Rattle.tappet_compiler.proofs.Tappets.{allows_mid, holder_compiled, moves_compiled, shift_compiled}
use Rattle.tappet_compiler.proofs.laws.same_holder.Goals as goal

pub returns : goal.returns
returns c = record {
  mid = allows_mid c.mid_is_enough.ensures;
  holder = λ ends lever rows. holder_compiled c.mid_is_enough.ensures ends lever 1 rows;
  shift = shift_compiled c.mid_is_enough.ensures;
  moves = moves_compiled c.mid_is_enough.ensures c.holder_law.ensures.free;
}
