use Rattle.std.proofs.Common.{List, ap, ◌∙◌, arith}
use Rattle.std.proofs.lemmas.List.{take_all}
use Rattle.line_law.specs.declared.call.Entry.{Entry}
use Rattle.line_law.specs.History.{part_of}
use Rattle.hand_working.proofs.Parts.{part_next}
use Rattle.hand_working.proofs.book.register_of.Goals as goal

pub loop-entry-preserved : goal.loop-entry-preserved
loop-entry-preserved c =
    let now = c.loop-entry.invariant in
    record {
      box = c.enter.ensures.box_no ∙ now.box;
      entries =
          c.enter.ensures.entries
          ∙ rw (now.box, now.entries)
          (part_next c.args.box_no c.args.entries.now c.loop-entry.entry-index _ c.loop-entry-test.true);
      room = omega (arith, now.room, c.enter.ensures.spare);
    }

pub enter-requires : goal.enter-requires
enter-requires c = omega (arith, c.loop-entry.invariant.room, c.loop-entry-test.true)

pub returns-clause-entries : goal.returns-clause-entries
returns-clause-entries c =
    c.loop-entry.invariant.entries
    ∙ ap (λ (es : List Entry). part_of c.args.box_no es)
    (take_all c.loop-entry.entry-index c.args.entries.now c.loop-entry-test.false)
