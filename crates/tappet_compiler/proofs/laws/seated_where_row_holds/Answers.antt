use Rattle.tappet_compiler.proofs.Tappets.{seated_bridle}
use Rattle.tappet_compiler.proofs.laws.seated_where_row_holds.Goals as goal

pub returns : goal.returns
returns c = seated_bridle
