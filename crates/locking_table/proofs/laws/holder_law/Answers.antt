use Rattle.locking_table.proofs.Holding.{held_by_first, held_by_none}
use Rattle.locking_table.proofs.laws.holder_law.Goals as goal

pub returns : goal.returns
returns c = record { free = held_by_none; first = held_by_first }
