use Rattle.std.proofs.Common.{◌≡◌, drop}
use Rattle.locking_sheet.specs.Texts.{levers_onto}
use Rattle.locking_sheet.proofs.printing.put_levers.Given as goal

abbrev pub invariant-loop-lever : goal.invariant-loop-lever
invariant-loop-lever l = levers_onto l.rows l.sheet l.lines (drop l.lever-index l.levers)
    ≡ levers_onto l.rows l.sheet l.fn.lines l.levers
