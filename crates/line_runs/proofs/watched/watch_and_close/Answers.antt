use Rattle.std.proofs.Common.{length, sym, ap, ◌∙◌}
use Rattle.std.proofs.lemmas.Result.{IfOk-weaker}
use Rattle.line_plan.specs.Plans.{IsPlan, PlanFields}
use Rattle.line_watch.specs.Boards.{BoardFields}
use Rattle.line_runs.proofs.LineWatched.{all_filled, all_rounds, rounds_shown}
use Rattle.line_runs.proofs.ScriptsWorked.{can_work_lent, done_worked, men_done}
use Rattle.line_runs.proofs.watched.watch_and_close.Goals as goal

pub work_watched-requires-clause-ready : goal.work_watched-requires-clause-ready
work_watched-requires-clause-ready g c κs within i d e lt =
    can_work_lent c.args.line.table.shared.table_id c.args.plan.now c.args.line.table.shared.key c.args.scripts.now
    c.args.men.items c.deref_mut.result.now c.requires.line c.deref_mut.ensures.value c.requires.scripts c.requires.men
    i d e lt

pub work_watched-requires-clause-plan : goal.work_watched-requires-clause-plan
work_watched-requires-clause-plan g c κs within =
    ap (λ (b : BoardFields). b.boxes) c.requires.blank ∙ ap (λ (p : PlanFields). length p.boxes) (sym c.requires.line)

pub closed_line-requires : goal.closed_line-requires
closed_line-requires g c =
    (men_done c.args.line.table.shared.table_id c.args.plan.now c.args.line.table.shared.key c.args.scripts.now _
    c.args.men.len c.args.men.items c.deref_mut.result.now c.work_watched.new.men c.requires.line
    c.deref_mut.ensures.value (sym c.deref_mut.ensures.len) c.requires.scripts c.requires.men
    c.work_watched.ensures.count c.work_watched.ensures.worked).are

pub returns-clause-worked : goal.returns-clause-worked
returns-clause-worked g c =
    let is : IsPlan c.args.plan.now = c.meets_conditions.ensures in
    let done = men_done c.args.line.table.shared.table_id c.args.plan.now c.args.line.table.shared.key
    c.args.scripts.now _ c.args.men.len c.args.men.items c.deref_mut.result.now c.work_watched.new.men c.requires.line
    c.deref_mut.ensures.value (sym c.deref_mut.ensures.len) c.requires.scripts c.requires.men
    c.work_watched.ensures.count c.work_watched.ensures.worked in
    IfOk-weaker c.closed_line.result _ _
    (λ ended closed. done_worked c.args.line.table.shared.table_id c.args.plan.now c.args.line.table.shared.key
    c.args.scripts.now _ c.args.men.items c.work_watched.new.men _ ended.registers is c.requires.line
    c.requires.scripts c.requires.men done closed) c.closed_line.ensures

pub returns-clause-filled : goal.returns-clause-filled
returns-clause-filled g c =
    let watched = c.work_watched.ensures.watched in
    all_filled c.args.plan.now c.args.board.now c.work_watched.new.board watched.0 c.requires.blank watched.2 watched.3

pub returns-clause-shown : goal.returns-clause-shown
returns-clause-shown g c =
    let is : IsPlan c.args.plan.now = c.meets_conditions.ensures in
    let watched = c.work_watched.ensures.watched in
    let done = men_done c.args.line.table.shared.table_id c.args.plan.now c.args.line.table.shared.key
    c.args.scripts.now _ c.args.men.len c.args.men.items c.deref_mut.result.now c.work_watched.new.men c.requires.line
    c.deref_mut.ensures.value (sym c.deref_mut.ensures.len) c.requires.scripts c.requires.men
    c.work_watched.ensures.count c.work_watched.ensures.worked in
    IfOk-weaker c.closed_line.result _ _
    (λ ended closed. rounds_shown c.args.line.table.shared.table_id c.args.plan.now c.args.line.table.shared.key
    c.work_watched.new.men _ watched.0 c.work_watched.new.board.rounds watched.1 ended.registers is c.requires.line
    done.back
    (all_rounds c.args.plan.now c.args.board.now c.work_watched.new.board watched.0 c.requires.blank watched.2)
    done.are watched.4 closed) c.closed_line.ensures
