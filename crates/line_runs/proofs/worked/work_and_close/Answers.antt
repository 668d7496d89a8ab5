use Rattle.std.proofs.Common.{ap, sym}
use Rattle.std.proofs.lemmas.Result.{IfOk-weaker}
use Rattle.line_plan.specs.Plans.{IsPlan, PlanFields}
use Rattle.line_runs.proofs.ScriptsWorked.{can_work_lent, done_worked, men_done, of_men}
use Rattle.line_runs.proofs.worked.work_and_close.Goals as goal

pub work_line-requires-clause-ready : goal.work_line-requires-clause-ready
work_line-requires-clause-ready g c κs within i d e lt =
    can_work_lent c.args.line.table.shared.table_id c.args.plan.now c.args.line.table.shared.key c.args.scripts.now
    c.args.men.items c.deref_mut.result.now c.requires.line c.deref_mut.ensures.value c.requires.scripts c.requires.men
    i d e lt

pub closed_line-requires : goal.closed_line-requires
closed_line-requires g c =
    (men_done c.args.line.table.shared.table_id c.args.plan.now c.args.line.table.shared.key c.args.scripts.now _
    c.args.men.len c.args.men.items c.deref_mut.result.now c.work_line.new.men c.requires.line
    c.deref_mut.ensures.value (sym c.deref_mut.ensures.len) c.requires.scripts c.requires.men
    c.work_line.ensures.count c.work_line.ensures.worked).are

pub returns-clause-worked : goal.returns-clause-worked
returns-clause-worked g c =
    let is : IsPlan c.args.plan.now = c.meets_conditions.ensures in
    let done = men_done c.args.line.table.shared.table_id c.args.plan.now c.args.line.table.shared.key
    c.args.scripts.now _ c.args.men.len c.args.men.items c.deref_mut.result.now c.work_line.new.men c.requires.line
    c.deref_mut.ensures.value (sym c.deref_mut.ensures.len) c.requires.scripts c.requires.men
    c.work_line.ensures.count c.work_line.ensures.worked in
    IfOk-weaker c.closed_line.result _ _
    (λ ended closed. done_worked c.args.line.table.shared.table_id c.args.plan.now c.args.line.table.shared.key
    c.args.scripts.now _ c.args.men.items c.work_line.new.men _ ended.registers is c.requires.line c.requires.scripts
    c.requires.men done closed) c.closed_line.ensures

pub returns-clause-men : goal.returns-clause-men
returns-clause-men g c =
    let done = men_done c.args.line.table.shared.table_id c.args.plan.now c.args.line.table.shared.key
    c.args.scripts.now _ c.args.men.len c.args.men.items c.deref_mut.result.now c.work_line.new.men c.requires.line
    c.deref_mut.ensures.value (sym c.deref_mut.ensures.len) c.requires.scripts c.requires.men
    c.work_line.ensures.count c.work_line.ensures.worked in
    IfOk-weaker c.closed_line.result _ _
    (λ ended closed. of_men c.args.line.table.shared.table_id c.args.plan.now c.args.line.table.shared.key
    c.args.scripts.now _ c.args.men.items c.work_line.new.men _ ended.registers c.requires.line
    (ap (λ (p : PlanFields). p.looks) c.plan.view_is) c.requires.men done closed)
    c.closed_line.ensures
