use Rattle.line_law.proofs.Opens.{opening_at, opening_pair_at, opening_shape, opens}
use Rattle.line_law.proofs.laws.opening_law.Goals as goal

pub returns-clause-shape : goal.returns-clause-shape
returns-clause-shape c = opening_shape

pub returns-clause-line : goal.returns-clause-line
returns-clause-line c = opens

pub returns-clause-boxes : goal.returns-clause-boxes
returns-clause-boxes c = opening_at

pub returns-clause-pairs : goal.returns-clause-pairs
returns-clause-pairs c = opening_pair_at
