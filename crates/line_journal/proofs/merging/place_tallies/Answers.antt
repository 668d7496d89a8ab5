use Rattle.std.proofs.Common.{List, length, ap, arith, subst, ◌∙◌}
use Rattle.line_law.specs.declared.call.Entry.{Entry}
use Rattle.line_journal.specs.Merging.{AreTallies}
use Rattle.line_journal.proofs.Tallies.{word_next}
use Rattle.line_journal.proofs.Walks.{told_behind}
use Rattle.line_journal.proofs.merging.place_tallies.Goals as goal

pub returns : goal.returns
returns c =
    let many = c.tallies_in-many.result in
    let next = c.of_box.ensures in
    let within = c.tallies_in-many.ensures.within in
    let fits = ap (λ (l : List Entry). length l) next in
    record {
      many = many;
      within = omega (arith, within, fits);
      tallies = subst (λ (l : List Entry). AreTallies l many) next c.tallies_in-many.ensures.each;
      told = c.in_ok-resize.ensures.items
          ∙ told_behind c.args.boxes.now.items c.len.result _ many c.args.box_no c.len.ensures c.args.boxes.now.ok.0;
      rest = c.place_some.ensures;
      word = word_next c.args.left.now c.requires.box_no next c.tallies_in-many.ensures.word c.place_some.ensures;
    }
