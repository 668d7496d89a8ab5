use mathlib.Core.Path.{fun_ext}
use Rattle.std.proofs.Common.{◌≡◌, ℕ, ◌∙◌, [], length, map, subst, sym, refl}
use Rattle.std.proofs.lemmas.List.{length-map}
use Rattle.std.proofs.lemmas.Result.{err_from_is_err_and}
use Rattle.text_fetch.specs.FromTexts.{Gives, Held, IsGiven, StopsAt, plan_told, told_then}
use Rattle.text_fetch.specs.Runs.{scripts_told}
use Rattle.text_fetch.proofs.Gathering.{given_then, stops_first}
use Rattle.explained_texts.specs.Troubles.{IsExplainedOfRun, stop_shown}
use Rattle.explained_texts.proofs.Faults.{plan_fault, run_fault}
use Rattle.explained_texts.proofs.Onward.{counted, given_more, stops_more}
use Rattle.explained_texts.proofs.gathering.fetch_run.Goals as goal

pub returns-in-Ok-clause-told : goal.returns-in-Ok-clause-told
returns-in-Ok-clause-told g c =
    let held = g.S.Shelf.held c.args.shelf.now in
    let names = map (λ name. name.now) c.args.script_names.now in
    let many : length names ≡ length c.args.script_names.now = length-map c.args.script_names.now (λ name. name.now) in
    let plan = c.in_ok-plan.plan in
    let scripts = c.fetch_scripts.new.scripts.items in
    let given = subst (λ (n : ℕ). IsGiven plan (counted (plan_told held c.args.plan_name.now) n)) (sym many)
    c.in_ok-plan.ensures.told in
    let read = subst (λ (x : Held). IsGiven scripts (scripts_told x plan [] names)) (fun_ext c.fetch_plan.ensures.same)
    c.in-Ok.ensures.told in
    given_more (length names) (λ p. told_then (scripts_told held p [] names)
    (λ done. Gives (record { plan = p; scripts = done })))
    (plan_told held c.args.plan_name.now) plan (record { plan = plan; scripts = scripts }) given
    (given_then scripts _ (scripts_told held plan [] names) _ read refl)

pub returns-in-Err-clause-told : goal.returns-in-Err-clause-told
returns-in-Err-clause-told g c =
    let held = g.S.Shelf.held c.args.shelf.now in
    let names = map (λ name. name.now) c.args.script_names.now in
    let many : length names ≡ length c.args.script_names.now = length-map c.args.script_names.now (λ name. name.now) in
    let plan = c.in_ok-plan.plan in
    let stop = stop_shown c.in-Err.trouble in
    let given = subst (λ (n : ℕ). IsGiven plan (counted (plan_told held c.args.plan_name.now) n)) (sym many)
    c.in_ok-plan.ensures.told in
    let read = subst (λ (x : Held). StopsAt stop (scripts_told x plan [] names)) (fun_ext c.fetch_plan.ensures.same)
    c.in-Err.ensures.told in
    stops_more (length names) (λ p. told_then (scripts_told held p [] names)
    (λ done. Gives (record { plan = p; scripts = done })))
    (plan_told held c.args.plan_name.now) plan stop given
    (stops_first stop (scripts_told held plan [] names) _ read)

pub returns-in-Err-clause-explained : goal.returns-in-Err-clause-explained
returns-in-Err-clause-explained g c =
    let names = map (λ name. name.now) c.args.script_names.now in
    subst (λ (s : Held). IsExplainedOfRun s c.args.plan_name.now names c.in-Err.trouble)
    (fun_ext c.fetch_plan.ensures.same) (c.in-Err.ensures.explained c.args.plan_name.now)

pub returns-in_err-plan-clause-fault : goal.returns-in_err-plan-clause-fault
returns-in_err-plan-clause-fault g c =
    let p = err_from_is_err_and c.from_residual.result c.from_residual.ensures.1 in
    rw (p.1, p.2)
    (plan_fault (g.S.Shelf.held c.args.shelf.now) (g.S.Shelf.faults c.args.shelf.now)
    (g.S.Shelf.faults c.fetch_plan.new.shelf) c.args.plan_name.now (map (λ name. name.now) c.args.script_names.now)
    c.in_err-plan.field-0.0 c.in_err-plan.ensures.fault)

pub returns-in-Err-clause-fault : goal.returns-in-Err-clause-fault
returns-in-Err-clause-fault g c =
    let names = map (λ name. name.now) c.args.script_names.now in
    run_fault (g.S.Shelf.held c.args.shelf.now) (g.S.Shelf.held c.fetch_plan.new.shelf)
    (g.S.Shelf.faults c.args.shelf.now) (g.S.Shelf.faults c.fetch_plan.new.shelf)
    (g.S.Shelf.faults c.fetch_scripts.new.shelf) c.args.plan_name.now names c.in_ok-plan.plan _ c.in-Err.trouble
    (fun_ext c.fetch_plan.ensures.same) c.fetch_plan.ensures.later c.in_ok-plan.ensures.told
    (length-map c.args.script_names.now (λ name. name.now) ∙ sym c.in_ok-plan.ensures.count) c.in-Err.ensures.fault
