use Rattle.rule_tests.proofs.Joins.{beside}
use Rattle.rule_tests.proofs.joined.take_beside.Goals as goal

pub returns-clause-fresh : goal.returns-clause-fresh
returns-clause-fresh c =
    beside c.args.line.now.table.shared.key c.args.line.now.is_plan c.args.post.now.seat.me.0
    c.args.other.seat.me.0 c.join.new.self.seat.me.0 c.requires.fresh
    c.join.ensures.view c.join.ensures.mine c.join.ensures.legal
