use Rattle.instrument_rule.specs.Posts.{plan_of}
use Rattle.instrument_rule.proofs.Doing.{hands_glance, no_step}
use Rattle.instrument_rule.proofs.post.Post.glance_as.Goals as goal

pub load-requires : goal.load-requires
load-requires g c = let J = g.J.Glancing in let line = c.args.line.now in let id = line.table.shared.table_id in let h =
    hands_glance J.plan (plan_of line) id.words id.slots c.args.self.now.seat.id
    c.args.self.now.seat.me J.word c.args.section.rear c.args.section.way c.block-word.result no_step c.requires.plan
    c.requires.word line.is_plan c.requires.sits c.requires.section line.wide c.block-word.ensures in
    (c.requires.line, h.0, h.1)
