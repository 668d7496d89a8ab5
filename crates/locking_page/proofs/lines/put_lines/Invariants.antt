use Rattle.std.proofs.Common.{◌≡◌, ◌++◌, drop}
use Rattle.locking_page.specs.Lines.{lines_text}
use Rattle.locking_page.proofs.lines.put_lines.Given as goal

abbrev pub invariant-loop-lever : goal.invariant-loop-lever
invariant-loop-lever l = record {
  text : l.page.text ++ lines_text l.rows l.sheet (drop l.lever-index l.levers)
      ≡ l.fn.page.text ++ lines_text l.rows l.sheet l.levers;
  tags : l.page.open_tags ≡ l.fn.page.open_tags;
}
