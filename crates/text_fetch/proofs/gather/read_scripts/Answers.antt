use Rattle.std.proofs.Common.{rules, ◌≡◌, ◌∙◌, ◌+◌, List, [], ◌∷◌, ◌++◌, Result, Ok, Err, get_or, length}
use Rattle.std.proofs.Common.{refl, sym, ap, subst, arith, append_assoc, length-append}
use Rattle.std.proofs.lemmas.Result.{err_from_is_err_and}
use Rattle.std.specs.Vec.Iter.{into_iter_items}
use Rattle.script_text.specs.Scripts.{IsScriptOf}
use Rattle.script_text.specs.declared.script.Script.{Script}
use Rattle.text_fetch.specs.Fetches.{AreEachRead}
use Rattle.text_fetch.specs.declared.stop.Stop.{Stop}
use Rattle.text_fetch.specs.declared.stop.Stop.TheVariants.{ShelfFault}
use Rattle.text_fetch.proofs.Gathering.{all_read, next_read, none_read, own_more, read_more, stops_here, told_here}
use Rattle.text_fetch.proofs.RunInputs.{same_stop}
use Rattle.text_fetch.proofs.gather.read_scripts.Goals as goal

pub loop-script-init : goal.loop-script-init
loop-script-init g c =
    let same : into_iter_items c.into_iter-script-iterator.result ≡ c.in_ok-script-items.script-items.items =
    c.into_iter-script-iterator.ensures.into_iter_gives.0 in
    let none = c.new-scripts.ensures.items in
    let size : length c.in_ok-script-items.script-items.items ≡ length c.args.texts.now = search rules in
    record {
      can = tt;
      ends = tt;
      each = rw same c.in_ok-script-items.ensures.each;
      all = ap length same ∙ size;
      counted = ap length none;
      read = λ held names e h. rw none (none_read held c.args.plan.now names);
      own = λ b s e. (let nothing = rw none at e in absurd cc);
    }

pub loop-script-preserved : goal.loop-script-preserved
loop-script-preserved g c =
    let plan = c.args.plan.now in
    let texts = c.args.texts.now in
    let before = c.loop-script.yielded in
    let rest = into_iter_items c.loop-script.script-iterator in
    let behind = into_iter_items c.next.new.self in
    let now = c.loop-script.invariant in
    let script : Script = c.in_ok-script.field-0 in
    let item : c.in-Some.script ≡ Ok script = search rules in
    let next = next_read plan texts before rest behind c.in-Some.script (Ok script) now.each now.all
    c.in-Some.ensures.steps.0 item in
    let onward = append_assoc before (c.in-Some.script ∷ []) behind
    ∙ ap (λ (rs : List (Result Script Stop)). before ++ rs) (sym c.in-Some.ensures.steps.0) in
    let more : c.push.new.self.items ≡ c.loop-script.scripts.items ++ script ∷ [] = c.in_ok-push.ensures.items in
    let one : length (before ++ c.in-Some.script ∷ []) ≡ length before + 1 =
    length-append before (c.in-Some.script ∷ []) in
    let own : IsScriptOf plan (length c.loop-script.scripts.items) script = rw now.counted next.is.own in
    record {
      can = tt;
      ends = tt;
      each = subst (λ (rs : List (Result Script Stop)). AreEachRead plan texts rs) (sym onward) now.each;
      all = ap length onward ∙ now.all;
      counted = omega (
        arith,
        ap length more,
        length-append c.loop-script.scripts.items (script ∷ []),
        one,
        now.counted,
      );
      read = λ held names e h. rw (more, one)
          (read_more held plan names (length before) c.loop-script.scripts.items (get_or names (length before) [])
          script (omega (arith, next.within, e)) refl (now.read held names e h)
          (told_here held plan names texts (length before) (Ok script) next.text h next.within next.is));
      own = rw more (own_more plan c.loop-script.scripts.items script now.own own);
    }

pub returns-in_err-script-clause-told : goal.returns-in_err-script-clause-told
returns-in_err-script-clause-told g c held names e h =
    let plan = c.args.plan.now in
    let texts = c.args.texts.now in
    let before = c.loop-script.yielded in
    let rest = into_iter_items c.loop-script.script-iterator in
    let now = c.loop-script.invariant in
    let stop : Stop = c.in_err-script.field-0.0 in
    let item : c.in-Some.script ≡ Err stop = search rules in
    let next = next_read plan texts before rest (into_iter_items c.next.new.self) c.in-Some.script (Err stop) now.each
    now.all c.in-Some.ensures.steps.0 item in
    let p = err_from_is_err_and c.from_residual-in_err-script.result c.from_residual-in_err-script.ensures.1 in
    rw (p.1, p.2)
    (stops_here held plan names (length before) c.loop-script.scripts.items (get_or names (length before) []) stop
    (omega (arith, next.within, e)) refl (now.read held names e h)
    (told_here held plan names texts (length before) (Err stop) next.text h next.within next.is))

pub returns-in_err-script-clause-fault : goal.returns-in_err-script-clause-fault
returns-in_err-script-clause-fault g c fault =
    let rest = into_iter_items c.loop-script.script-iterator in
    let now = c.loop-script.invariant in
    let stop : Stop = c.in_err-script.field-0.0 in
    let item : c.in-Some.script ≡ Err stop = search rules in
    let next = next_read c.args.plan.now c.args.texts.now c.loop-script.yielded rest (into_iter_items c.next.new.self)
    c.in-Some.script (Err stop) now.each now.all c.in-Some.ensures.steps.0 item in
    let p = err_from_is_err_and c.from_residual-in_err-script.result c.from_residual-in_err-script.ensures.1 in
    next.is.fetched (same_stop stop ShelfFault (rw (p.1, p.2) at fault))

pub returns-clause-told : goal.returns-clause-told
returns-clause-told g c held names e h =
    let now = c.loop-script.invariant in
    let none : length (into_iter_items c.loop-script.script-iterator) ≡ 0 = search rules in
    all_read held c.args.plan.now names (length c.loop-script.yielded) c.loop-script.scripts.items
    (omega (
      arith,
      e,
      now.all,
      length-append c.loop-script.yielded (into_iter_items c.loop-script.script-iterator),
      none,
    ))
    (now.read held names e h)
