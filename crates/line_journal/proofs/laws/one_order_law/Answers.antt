use Rattle.line_journal.proofs.OneOrder.{first_ready, have_one_order, history_remains, order_places}
use Rattle.line_law.specs.States.{opening_state}
use Rattle.line_journal.specs.Order.{lists_of}
use Rattle.line_journal.proofs.laws.one_order_law.Goals as goal

pub returns-clause-order : goal.returns-clause-order
returns-clause-order c = have_one_order

pub returns-clause-placed : goal.returns-clause-placed
returns-clause-placed c =
    λ plan registers es later order. order_places plan (opening_state plan) (lists_of registers) es later order

pub returns-clause-remains : goal.returns-clause-remains
returns-clause-remains c = history_remains

pub returns-clause-ready : goal.returns-clause-ready
returns-clause-ready c = first_ready
