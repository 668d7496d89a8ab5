use Rattle.rule_tests.proofs.Joins.{over}
use Rattle.rule_tests.proofs.joined.take_over.Goals as goal

pub returns-clause-fresh : goal.returns-clause-fresh
returns-clause-fresh c =
    over c.args.line.now.table.shared.key c.args.line.now.is_plan c.args.post.now.seat.me.0
    c.args.other.seat.me.0 c.join.new.self.seat.me.0 c.requires.idle.0 c.requires.idle.1 c.requires.fresh
    c.join.ensures.view c.join.ensures.others c.join.ensures.legal
