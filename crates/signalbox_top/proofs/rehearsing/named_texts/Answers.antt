use Rattle.std.proofs.Common.{rules, ◌∙◌, ◌<◌, length, map, arith}
use Rattle.std.proofs.lemmas.List.{length-map}
use Rattle.signalbox_top.proofs.NamedTexts.{all_named, text_pushed}
use Rattle.signalbox_top.proofs.rehearsing.named_texts.Goals as goal

pub loop-at-preserved : goal.loop-at-preserved
loop-at-preserved c =
    let i = c.loop-at.at in
    let names = c.args.names.now in
    let within : i < length names = omega (arith, c.loop-at-test.true) in
    c.in_ok-push.ensures.items
    ∙ text_pushed names c.args.texts.now c.loop-at.named.items i _ c.index-texts-at.result c.as_slice.result.now
    c.loop-at.invariant (search rules) within
    (omega (arith, within, c.requires)) (omega (arith, within, length-map names (λ name. name.now)))

pub returns : goal.returns
returns c =
    let names = c.args.names.now in
    all_named (map (λ name. name.now) names) c.args.texts.now c.loop-at.named.items c.loop-at.at c.loop-at.invariant
    (omega (arith, c.loop-at-test.false, length-map names (λ name. name.now)))
