use Rattle.std.proofs.Common.{ap, ◌∙◌}
use Rattle.signalman_seats.specs.Men.{Man}
use Rattle.instrument_rule.specs.Posts.{plan_of, view_of}
use Rattle.signalman_seats.proofs.Gathering.{takes_in}
use Rattle.signalman_seats.proofs.man.Signalman.take_watch.Goals as goal

pub invariant_of-self : goal.invariant_of-self
invariant_of-self c =
    takes_in (plan_of c.args.line.now) (view_of c.self.inside.post) (view_of c.join.new.self)
    (view_of c.args.post) c.self.inside.box_no c.self.inside.desk c.self.inside.register c.self.inside.looks_taken
    c.self.inside.notes c.args.line.now.is_plan (ap (λ (man : Man). man.view.plan) c.self.view_is ∙ c.requires.line.1)
    c.self.invariant c.join.ensures.view c.requires.watch.1 c.join.ensures.mine c.join.ensures.legal
