use Rattle.std.proofs.Common.{◌+◌, List, length, take, sym, subst, arith}
use Rattle.std.proofs.lemmas.List.{length-take, take_more}
use Rattle.line_law.specs.declared.call.Entry.{Entry}
use Rattle.line_law.specs.History.{IsLegal}
use Rattle.reg_audit.proofs.Exactly.{no_entry}
use Rattle.reg_audit.proofs.Places.{legal_before}
use Rattle.box_marking.specs.Markers.{HasMarked}
use Rattle.box_marking.proofs.marking.markings_in.Goals as goal

pub hear-requires : goal.hear-requires
hear-requires c =
    let i = c.loop-entry.entry-index in
    let entries = c.args.entries.now in
    record {
      es = take i entries;
      has = c.loop-entry.invariant.marked;
      legal = subst (λ (es : List Entry). IsLegal c.args.plan.now es)
          (take_more entries i no_entry c.loop-entry-test.true)
          (legal_before c.args.plan.now entries (i + 1) c.requires.legal);
      few =
          let lt = c.loop-entry-test.true in
          let few = c.requires.few in
          omega (arith, length-take i entries, lt, few);
    }

pub loop-entry-preserved : goal.loop-entry-preserved
loop-entry-preserved c =
    let i = c.loop-entry.entry-index in
    let entries = c.args.entries.now in
    let more = take_more entries i no_entry c.loop-entry-test.true in
    record {
      marked = subst
          (λ (es : List Entry). HasMarked c.args.plan.now c.args.within (length entries) es c.hear.new.self) (sym more)
          (c.in_ok-hear.ensures (take i entries) c.loop-entry.invariant.marked
          (subst (λ (es : List Entry). IsLegal c.args.plan.now es) more
          (legal_before c.args.plan.now entries (i + 1) c.requires.legal)));
    }
