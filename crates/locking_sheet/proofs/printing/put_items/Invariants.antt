use Rattle.std.proofs.Common.{◌≡◌, drop}
use Rattle.locking_sheet.specs.Texts.{items_onto}
use Rattle.locking_sheet.proofs.printing.put_items.Given as goal

abbrev pub invariant-loop-place : goal.invariant-loop-place
invariant-loop-place l = items_onto l.head l.rows l.lines (drop l.place-index l.places)
    ≡ items_onto l.head l.rows l.fn.lines l.places
