use Rattle.graph_picture.proofs.Apart.{boxes_apart, levels_apart}
use Rattle.graph_picture.proofs.laws.apart_law.Goals as goal

pub returns-clause-places : goal.returns-clause-places
returns-clause-places c = levels_apart

pub returns-clause-boxes : goal.returns-clause-boxes
returns-clause-boxes c = boxes_apart
