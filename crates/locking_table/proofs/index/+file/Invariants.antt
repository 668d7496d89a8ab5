use Rattle.std.proofs.Common.{length}
use Rattle.locking_table.proofs.index.+file.Given as goal

abbrev pub decreases-file : goal.decreases-file
decreases-file l = length l.levers.now
