use Rattle.graph_scene.proofs.Drawn.{deed_there, line_own, line_there, lines_rise}
use Rattle.graph_scene.proofs.Ordered.{deeds_rise}
use Rattle.graph_scene.proofs.laws.lines_law.Goals as goal

pub returns-clause-deed : goal.returns-clause-deed
returns-clause-deed c = deed_there

pub returns-clause-line : goal.returns-clause-line
returns-clause-line c = line_there

pub returns-clause-own : goal.returns-clause-own
returns-clause-own c = line_own

pub returns-clause-once : goal.returns-clause-once
returns-clause-once c = lines_rise

pub returns-clause-order : goal.returns-clause-order
returns-clause-order c = deeds_rise
