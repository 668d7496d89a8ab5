use Rattle.std.proofs.Common.{Ok, arith, sym, ap, subst, ◌∙◌, refl}
use Rattle.line_report.specs.Readers.{ReaderFields}
use Rattle.line_report.specs.Spelled.{IsBehind}
use Rattle.line_report.proofs.NextEntry.{tells_at, told_behind}
use Rattle.line_report.proofs.journal_reader.JournalReader.next_entry.Goals as goal

pub index_mut-requires : goal.index_mut-requires
index_mut-requires c =
    let behind = told_behind _ _ c.in-Ok-Some.told
    (sym c.told_by.ensures ∙ c.in-Ok-Some.is ∙ ap Ok c.in-Ok-Some.field-0-is) in
    let box = behind.spelled.box in
    let each = c.self.invariant.each in
    let len = c.self.inside.moments.ok.0 in
    omega (arith, box, each, len)

pub returns-in-Ok-Some-clause-gives : goal.returns-in-Ok-Some-clause-gives
returns-in-Ok-Some-clause-gives c =
    tells_at _ _ c.args.self.now _ _ c.in-Ok-Some.told c.self.view_is c.in-Some.ensures.line
    (sym c.told_by.ensures ∙ c.in-Ok-Some.is ∙ ap Ok c.in-Ok-Some.field-0-is) refl

pub returns-in-Ok-Some-clause-behind : goal.returns-in-Ok-Some-clause-behind
returns-in-Ok-Some-clause-behind c same =
    subst (λ (r : ReaderFields). IsBehind r.so_far.plan r.so_far.moments c.in-Ok-Some.told) c.self.view_is
    (told_behind _ _ c.in-Ok-Some.told (sym c.told_by.ensures ∙ c.in-Ok-Some.is ∙ ap Ok c.in-Ok-Some.field-0-is))
