use mathlib.Core.Path.{fun_ext}
use Rattle.std.proofs.Common.{rules, ℕ, subst}
use Rattle.std.proofs.lemmas.Result.{err_from_is_err_and}
use Rattle.script_text.specs.Scripts.{IsScriptOf}
use Rattle.script_text.specs.declared.script.Script.{Script}
use Rattle.text_fetch.specs.FromTexts.{Held, named}
use Rattle.explained_texts.specs.Others.{IsExplainedByName, IsOther}
use Rattle.explained_texts.proofs.EachScript.{each_more}
use Rattle.explained_texts.proofs.others.scripts_of_boxes.Goals as goal

pub loop-box_no-preserved : goal.loop-box_no-preserved
loop-box_no-preserved g c =
    let held = g.S.Shelf.held c.args.shelf.now in
    let plan = c.args.plan.now in
    let names = named c.args.names.now in
    let now = c.loop-box_no.invariant in
    let done = c.loop-box_no.scripts.items in
    let script = c.in_ok-script.script in
    let more = c.in_ok-push.ensures.items in
    record {
      same = search rules;
      counted = search rules;
      own = rw more
          (each_more (λ (b : ℕ) (s : Script). IsScriptOf plan b s) done script now.own
          (rw now.counted c.in_ok-script.ensures.own));
      others = rw more
          (each_more (λ (b : ℕ) (s : Script). IsOther held plan c.args.own names b s) done script now.others
          (rw now.counted
          (subst (λ (x : Held). IsOther x plan c.args.own names c.loop-box_no.box_no script) (fun_ext now.same)
          c.in_ok-script.ensures.other)));
    }

pub returns-in_err-script-clause-explained : goal.returns-in_err-script-clause-explained
returns-in_err-script-clause-explained g c =
    let p = err_from_is_err_and c.from_residual.result c.from_residual.ensures.1 in
    rw (p.1, p.2)
    (subst (λ (x : Held). IsExplainedByName x c.in_err-script.field-0.0) (fun_ext c.loop-box_no.invariant.same)
    c.in_err-script.ensures.explained)
