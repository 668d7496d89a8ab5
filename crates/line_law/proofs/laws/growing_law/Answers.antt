use Rattle.line_law.proofs.Histories.{legal_both, legal_first, legal_then, state_both}
use Rattle.line_law.proofs.laws.growing_law.Goals as goal

pub returns-clause-first : goal.returns-clause-first
returns-clause-first c = legal_first

pub returns-clause-others : goal.returns-clause-others
returns-clause-others c = legal_then

pub returns-clause-both : goal.returns-clause-both
returns-clause-both c = legal_both

pub returns-clause-ends : goal.returns-clause-ends
returns-clause-ends c = state_both
