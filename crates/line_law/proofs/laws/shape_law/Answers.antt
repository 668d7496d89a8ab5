use Rattle.line_law.proofs.Histories.{history_states}
use Rattle.line_law.proofs.KeepingLaws.{history_keeps}
use Rattle.line_law.proofs.laws.shape_law.Goals as goal

pub returns-clause-shape : goal.returns-clause-shape
returns-clause-shape c = history_states

pub returns-clause-line : goal.returns-clause-line
returns-clause-line c = history_keeps
