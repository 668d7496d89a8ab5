use Rattle.std.proofs.Common.{◌≡◌, ◌++◌, drop}
use Rattle.sheet_page.specs.Pages.{boxes_from}
use Rattle.sheet_page.proofs.sheets.put_boxes.Given as goal

abbrev pub invariant-loop-at : goal.invariant-loop-at
invariant-loop-at l = record {
  text : l.page.text ++ boxes_from l.plan l.entries l.only l.at (drop l.at l.plan.boxes)
      ≡ l.fn.page.text ++ boxes_from l.plan l.entries l.only 0 l.plan.boxes;
  tags : l.page.open_tags ≡ l.fn.page.open_tags;
}
