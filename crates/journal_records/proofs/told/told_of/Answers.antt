use Rattle.std.proofs.Common.{◌+◌, List, [], refl, sym, subst, arith}
use Rattle.std.proofs.lemmas.List.{append-nil, drop_all}
use Rattle.line_law.specs.declared.call.Entry.{Entry}
use Rattle.entry_records.specs.Fields.{EntryFields}
use Rattle.journal_records.specs.Told.{AreTold}
use Rattle.journal_records.proofs.told.told_of.Goals as goal

pub returns : goal.returns
returns c =
    let over = drop_all c.loop-at.at c.args.entries.now (omega (arith, c.loop-at-test.false)) in
    let none = subst (λ (es : List Entry). AreTold c.args.plan.now (c.loop-at.at + 1) es []) (sym over) refl in
    subst (λ (told : List EntryFields). AreTold c.args.plan.now 1 c.args.entries.now told)
    (append-nil c.loop-at.told.items) (c.loop-at.invariant [] none)
