use Rattle.std.proofs.Common.{◌≡◌, ◌++◌, drop}
use Rattle.locking_page.specs.Cells.{owns_text}
use Rattle.locking_page.proofs.cells.put_owns.Given as goal

abbrev pub invariant-loop-place : goal.invariant-loop-place
invariant-loop-place l = record {
  text : l.page.text ++ owns_text l.rows l.column (drop l.place-index l.places)
      ≡ l.fn.page.text ++ owns_text l.rows l.column l.places;
  tags : l.page.open_tags ≡ l.fn.page.open_tags;
}
