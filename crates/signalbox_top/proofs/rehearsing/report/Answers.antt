use Rattle.std.proofs.Common.{◌∙◌, ◌<◌, ◌^◌, List, All, length, ap, sym, subst, arith}
use Rattle.std.proofs.lemmas.List.{length-map}
use Rattle.rehearsal_report.specs.CallLines.{NamedText}
use Rattle.text_fetch.specs.FromTexts.{named}
use Rattle.signalbox_top.proofs.Reported.{named_length, races_within, texts_short}
use Rattle.signalbox_top.proofs.rehearsing.report.Goals as goal

pub put_report-requires-clause-each : goal.put_report-requires-clause-each
put_report-requires-clause-each c =
    let names = named c.args.names.now in
    let texts = c.deref-3.ensures.value ∙ (rw c.deref.ensures.value at c.in_ok-texts.ensures) in
    let all = named_length names c.args.run.now.texts.items
    (omega (arith, length-map c.args.names.now (λ name. name.now), c.requires.names, c.requires.texts)) in
    ap (λ (xs : List NamedText). length xs) texts ∙ all ∙ c.requires.texts
    ∙ sym (ap (λ xs. length xs) c.deref-2.ensures.value)

pub put_report-requires-clause-short : goal.put_report-requires-clause-short
put_report-requires-clause-short c =
    subst (λ (xs : List NamedText). All (λ text. length text.bytes < 2 ^ 32) xs)
    (sym (c.deref-3.ensures.value ∙ (rw c.deref.ensures.value at c.in_ok-texts.ensures)))
    (texts_short (named c.args.names.now) c.args.run.now.texts.items c.requires.few)

pub put_report-requires-clause-races : goal.put_report-requires-clause-races
put_report-requires-clause-races c =
    races_within c.args.run.now.plan c.args.rehearsal.now.journal.entries c.args.races.now c.requires.races
