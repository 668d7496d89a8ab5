use Rattle.std.proofs.Common.{length, map, take}
use Rattle.std.proofs.lemmas.List.{length-take-le}
use Rattle.std.proofs.lemmas.Result.{err_from_is_err_and}
use Rattle.text_fetch.specs.Fetches.{AreFetched}
use Rattle.text_fetch.proofs.Gathering.{front_fetched, stops_front}
use Rattle.text_fetch.proofs.gather.fetch_scripts.Goals as goal

pub returns-in_err-scripts-clause-told : goal.returns-in_err-scripts-clause-told
returns-in_err-scripts-clause-told g c =
    let held = g.S.Shelf.held c.args.shelf.now in
    let names = map (λ name. name.now) c.args.names.now in
    let texts = c.deref.result.now in
    let fetched : AreFetched held names texts = rw c.deref.ensures.value c.fetch_texts-fetched.ensures.texts in
    let p = err_from_is_err_and c.from_residual.result c.from_residual.ensures.1 in
    rw (p.1, p.2)
    (stops_front held c.args.plan.now names (length texts) c.in_err-scripts.field-0.0
    (c.in_err-scripts.ensures.told held (take (length texts) names) (length-take-le (length texts) names fetched.few)
    (front_fetched held names texts fetched)))
