use mathlib.Core.Path.{fun_ext}
use Rattle.std.proofs.Common.{rules, ◌<◌, [], get_or, map, length, refl, arith}
use Rattle.std.proofs.lemmas.List.{length-map}
use Rattle.std.proofs.lemmas.Result.{err_from_is_err_and}
use Rattle.text_fetch.proofs.Gathering.{own_more, read_more, stops_here}
use Rattle.explained_texts.specs.Troubles.{stop_shown}
use Rattle.explained_texts.proofs.NextText.{explained_there, fetched_more, fetched_there, few_more}
use Rattle.explained_texts.proofs.NextText.{given_there, stops_there}
use Rattle.explained_texts.proofs.Faults.{script_fault}
use Rattle.explained_texts.proofs.gathering.fetch_scripts.Goals as goal

pub returns-in_err-had-clause-told : goal.returns-in_err-had-clause-told
returns-in_err-had-clause-told g c =
    let held = g.S.Shelf.held c.args.shelf.now in
    let plan = c.args.plan.now in
    let names = map (λ name. name.now) c.args.names.now in
    let i = c.loop-box_no.box_no in
    let now = c.loop-box_no.invariant in
    let p = err_from_is_err_and c.from_residual.result c.from_residual.ensures.1 in
    rw (p.1, p.2)
    (stops_here held plan names i c.loop-box_no.scripts.items (get_or names i []) (stop_shown c.in_err-had.field-0.0)
    (omega (arith, c.loop-box_no-test.true, length-map c.args.names.now (λ name. name.now))) refl now.read
    (stops_there held (g.S.Shelf.held c.loop-box_no.shelf) plan c.args.names.now i _ (stop_shown c.in_err-had.field-0.0)
    now.same (omega (arith, c.loop-box_no-test.true)) c.in_err-had.ensures.told))

pub returns-in_err-had-clause-explained : goal.returns-in_err-had-clause-explained
returns-in_err-had-clause-explained g c plan_name =
    let p = err_from_is_err_and c.from_residual.result c.from_residual.ensures.1 in
    rw (p.1, p.2)
    (explained_there (g.S.Shelf.held c.args.shelf.now) (g.S.Shelf.held c.loop-box_no.shelf) plan_name c.args.names.now
    c.loop-box_no.box_no _ c.in_err-had.field-0.0 (fun_ext c.loop-box_no.invariant.same)
    (omega (arith, c.loop-box_no-test.true)) c.in_err-had.ensures.explained)

pub returns-in_err-had-clause-fault : goal.returns-in_err-had-clause-fault
returns-in_err-had-clause-fault g c =
    let now = c.loop-box_no.invariant in
    let p = err_from_is_err_and c.from_residual.result c.from_residual.ensures.1 in
    rw (p.1, p.2)
    (script_fault (g.S.Shelf.held c.args.shelf.now) (g.S.Shelf.faults c.args.shelf.now)
    (g.S.Shelf.faults c.loop-box_no.shelf) (g.S.Shelf.faults c.fetch_script.new.shelf) c.args.plan.now
    c.args.names.now c.loop-box_no.box_no _ c.loop-box_no.scripts.items c.in_err-had.field-0.0 now.later
    (omega (arith, c.loop-box_no-test.true)) now.read c.in_err-had.ensures.fault)

pub loop-box_no-preserved : goal.loop-box_no-preserved
loop-box_no-preserved g c =
    let held = g.S.Shelf.held c.args.shelf.now in
    let plan = c.args.plan.now in
    let names = map (λ name. name.now) c.args.names.now in
    let i = c.loop-box_no.box_no in
    let now = c.loop-box_no.invariant in
    let script = c.in_ok-had.had.script in
    let more = c.in_ok-push.ensures.items in
    let texts = c.in_ok-push-2.ensures.items in
    let other = g.S.Shelf.held c.loop-box_no.shelf in
    let within : i < length c.args.names.now = omega (arith, c.loop-box_no-test.true) in
    let given = given_there held other plan c.args.names.now i _ script now.same within c.in_ok-had.ensures.told in
    record {
      same = search rules;
      later = search rules;
      read = rw more
          (read_more held plan names i c.loop-box_no.scripts.items (get_or names i []) script
          (omega (arith, within, length-map c.args.names.now (λ name. name.now))) refl now.read given);
      own = rw more
          (own_more plan c.loop-box_no.scripts.items script now.own (rw now.read.count c.in_ok-had.ensures.own));
      counted = search rules;
      fetched = rw texts
          (fetched_more held names c.loop-box_no.texts.items c.in_ok-had.had.bytes
          (omega (arith, now.counted, within, length-map c.args.names.now (λ name. name.now)))
          (rw now.counted
          (fetched_there held other c.args.names.now i _ c.in_ok-had.had.bytes.items now.same within
          c.in_ok-had.ensures.fetched))
          now.fetched);
      few = rw texts (few_more c.loop-box_no.texts.items c.in_ok-had.had.bytes now.few c.in_ok-had.ensures.few);
    }
