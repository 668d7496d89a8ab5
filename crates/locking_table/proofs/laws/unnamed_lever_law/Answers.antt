use Rattle.locking_table.proofs.Indexes.{both_let, holder_named, others_allow, row_away}
use Rattle.locking_table.proofs.laws.unnamed_lever_law.Goals as goal

pub returns : goal.returns
returns c = record { same = row_away; free = others_allow; holder = holder_named; both = both_let }
