use Rattle.line_law.proofs.Keeping.{shape_stays, stays}
use Rattle.line_law.proofs.laws.keeping_law.Goals as goal

pub returns-clause-line : goal.returns-clause-line
returns-clause-line c = stays

pub returns-clause-shape : goal.returns-clause-shape
returns-clause-shape c = shape_stays
