use Rattle.std.proofs.Common.{subst}
use Rattle.atomic_table.specs.Seated.{TableId}
use Rattle.line_plan.specs.Plans.{PlanFields}
use Rattle.signalman_seats.specs.Men.{IsDrawn, IsFresh}
use Rattle.instrument_rule.specs.Posts.{view_of}
use Rattle.signalman_seats.proofs.opening.seat_man.Goals as goal

pub returns-in-Ok-clause-fresh : goal.returns-in-Ok-clause-fresh
returns-in-Ok-clause-fresh c =
    let plan = c.args.plan.now in
    let b = c.args.box_no in
    subst (λ (t : TableId). IsFresh t plan b c.args.room c.at_post.result) c.in_ok-post.ensures.post
    (c.at_post.ensures plan c.args.room
    (subst (λ (p : PlanFields). IsDrawn p b (view_of c.in_ok-post.post)) c.requires.plan c.in_ok-post.ensures.drawn)
    c.in-Ok.ensures)
