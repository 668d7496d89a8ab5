use Rattle.std.proofs.Common.{◌≡◌, ◌++◌}
use Rattle.line_picture.specs.Sections.{sections_text}
use Rattle.line_picture.proofs.section_drawing.put_sections.Given as goal

abbrev pub invariant-loop-pair : goal.invariant-loop-pair
invariant-loop-pair l = record {
  text : l.page.text ≡ l.fn.page.text ++ sections_text l.plan l.layout l.pair;
  tags : l.page.open_tags ≡ l.fn.page.open_tags;
}
