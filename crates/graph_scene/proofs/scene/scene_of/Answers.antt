use Rattle.graph_scene.proofs.Legal.{legal_of}
use Rattle.graph_scene.proofs.scene.scene_of.Goals as goal

pub lines_of-requires : goal.lines_of-requires
lines_of-requires c = legal_of c.args.plan.now c.args.entries.now c.requires.legal

pub bars_of-requires : goal.bars_of-requires
bars_of-requires c = legal_of c.args.plan.now c.args.entries.now c.requires.legal

pub axis_of-requires-clause-of : goal.axis_of-requires-clause-of
axis_of-requires-clause-of c = legal_of c.args.plan.now c.args.entries.now c.requires.legal
