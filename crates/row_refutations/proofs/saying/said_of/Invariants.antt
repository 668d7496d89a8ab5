use Rattle.std.proofs.Common.{◌≡◌, drop}
use Rattle.row_refutations.specs.Known.{said_of}
use Rattle.row_refutations.proofs.saying.said_of.Given as goal

abbrev pub invariant-loop-cond : goal.invariant-loop-cond
invariant-loop-cond l = said_of l.known l.told (drop l.cond-index l.conds) ≡ said_of l.known l.fn.said l.conds
