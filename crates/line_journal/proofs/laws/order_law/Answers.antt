use Rattle.line_journal.proofs.Looping.{order_count, order_legal, order_parts}
use Rattle.line_journal.proofs.Orders.{placing}
use Rattle.line_journal.proofs.laws.order_law.Goals as goal

pub returns-clause-placing : goal.returns-clause-placing
returns-clause-placing c = placing

pub returns-clause-legal : goal.returns-clause-legal
returns-clause-legal c = order_legal

pub returns-clause-parts : goal.returns-clause-parts
returns-clause-parts c = order_parts

pub returns-clause-count : goal.returns-clause-count
returns-clause-count c = order_count
