use Rattle.std.proofs.Common.{◌≡◌, ◌++◌, drop}
use Rattle.locking_page.specs.Cells.{others_text}
use Rattle.locking_page.proofs.cells.put_others.Given as goal

abbrev pub invariant-loop-place : goal.invariant-loop-place
invariant-loop-place l = record {
  text : l.page.text ++ others_text l.rows (drop l.place-index l.places)
      ≡ l.fn.page.text ++ others_text l.rows l.places;
  tags : l.page.open_tags ≡ l.fn.page.open_tags;
}
