use Rattle.std.proofs.Common.{◌+◌, ◌*◌}
use Rattle.line_runs.proofs.printing.+registers.Given as goal

abbrev pub decreases-print_halves : goal.decreases-print_halves
decreases-print_halves g l = 2 * l.cuts

abbrev pub decreases-front : goal.decreases-front
decreases-front g l = 2 * l.cuts + 1

abbrev pub decreases-behind : goal.decreases-behind
decreases-behind g l = 2 * l.cuts + 1
