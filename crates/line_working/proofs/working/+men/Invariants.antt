use Prim.Native.Nat.{◌+◌, ◌*◌}
use Rattle.std.proofs.Common.{length}
use Rattle.line_working.proofs.working.+men.Given as goal

abbrev pub decreases-work_men : goal.decreases-work_men
decreases-work_men g l = 4 * length l.men.now

abbrev pub decreases-work_first : goal.decreases-work_first
decreases-work_first g l = 4 * length l.others.now + 2

abbrev pub decreases-work_first-theirs : goal.decreases-work_first-theirs
decreases-work_first-theirs g l = 4 * length l.others.now + 1
