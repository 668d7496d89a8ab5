use Rattle.graph_scene.proofs.Legal.{legal_of}
use Rattle.graph_scene.proofs.laws.legal_law.Goals as goal

pub returns : goal.returns
returns c = legal_of
