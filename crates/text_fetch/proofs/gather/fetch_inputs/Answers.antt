use mathlib.Core.Path.{fun_ext}
use Rattle.std.proofs.Common.{◌≡◌, ◌≢◌, length, map, ap, arith}
use Rattle.std.proofs.lemmas.List.{length-map}
use Rattle.line_plan.specs.Plans.{PlanFields}
use Rattle.text_fetch.proofs.RunInputs.{inputs_fault, inputs_given, inputs_miscounted, inputs_stop, same_stop}
use Rattle.text_fetch.proofs.gather.fetch_inputs.Goals as goal

pub returns-in-Err-clause-told : goal.returns-in-Err-clause-told
returns-in-Err-clause-told g c =
    let names = map (λ name. name.now) c.args.script_names.now in
    let boxes = ap (λ (p : PlanFields). length p.boxes) c.plan.view_is in
    let count : length names ≡ length c.in_ok-plan.plan.boxes =
    omega (
      arith,
      length-map c.args.script_names.now (λ name. name.now),
      c.if-script_names-len.false,
      c.len.ensures,
    ) in
    inputs_stop (g.S.Shelf.held c.args.shelf.now) (g.S.Shelf.held c.fetch_plan.new.shelf) c.args.plan_name.now names
    c.in_ok-plan.plan _ (fun_ext c.fetch_plan.ensures.same) c.in_ok-plan.ensures.plan count c.in-Err.ensures.told

pub returns-in-Err-clause-fault : goal.returns-in-Err-clause-fault
returns-in-Err-clause-fault g c h =
    let names = map (λ name. name.now) c.args.script_names.now in
    let boxes = ap (λ (p : PlanFields). length p.boxes) c.plan.view_is in
    let count : length names ≡ length c.in_ok-plan.plan.boxes =
    omega (
      arith,
      length-map c.args.script_names.now (λ name. name.now),
      c.if-script_names-len.false,
      c.len.ensures,
    ) in
    inputs_fault (g.S.Shelf.held c.args.shelf.now) (g.S.Shelf.held c.fetch_plan.new.shelf)
    (g.S.Shelf.faults c.args.shelf.now) (g.S.Shelf.faults c.fetch_plan.new.shelf)
    (g.S.Shelf.faults c.fetch_scripts.new.shelf)
    c.args.plan_name.now names c.in_ok-plan.plan (fun_ext c.fetch_plan.ensures.same) c.fetch_plan.ensures.later
    c.in_ok-plan.ensures.plan count (c.in-Err.ensures.fault (same_stop _ _ h))

pub returns-in-Ok-clause-told : goal.returns-in-Ok-clause-told
returns-in-Ok-clause-told g c =
    let names = map (λ name. name.now) c.args.script_names.now in
    let boxes = ap (λ (p : PlanFields). length p.boxes) c.plan.view_is in
    let count : length names ≡ length c.in_ok-plan.plan.boxes =
    omega (
      arith,
      length-map c.args.script_names.now (λ name. name.now),
      c.if-script_names-len.false,
      c.len.ensures,
    ) in
    inputs_given (g.S.Shelf.held c.args.shelf.now) (g.S.Shelf.held c.fetch_plan.new.shelf) c.args.plan_name.now names
    c.in_ok-plan.plan c.in-Ok.scripts.items (fun_ext c.fetch_plan.ensures.same) c.in_ok-plan.ensures.plan count
    c.in-Ok.ensures.told

pub returns-then-script_names-len-clause-told : goal.returns-then-script_names-len-clause-told
returns-then-script_names-len-clause-told g c =
    let names = map (λ name. name.now) c.args.script_names.now in
    let boxes = ap (λ (p : PlanFields). length p.boxes) c.plan.view_is in
    let count : length names ≢ length c.in_ok-plan.plan.boxes =
    omega (
      arith,
      length-map c.args.script_names.now (λ name. name.now),
      c.if-script_names-len.true,
      c.len.ensures,
    ) in
    inputs_miscounted (g.S.Shelf.held c.args.shelf.now) c.args.plan_name.now names c.in_ok-plan.plan
    c.in_ok-plan.ensures.plan count
