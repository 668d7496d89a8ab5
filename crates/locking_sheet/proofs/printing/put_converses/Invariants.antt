use Rattle.std.proofs.Common.{◌≡◌, drop}
use Rattle.locking_sheet.specs.Texts.{converses_onto}
use Rattle.locking_sheet.proofs.printing.put_converses.Given as goal

abbrev pub invariant-loop-place : goal.invariant-loop-place
invariant-loop-place l =
    converses_onto l.rows l.lines (drop l.place-index l.places) ≡ converses_onto l.rows l.fn.lines l.places
