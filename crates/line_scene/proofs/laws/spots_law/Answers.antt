use Rattle.line_scene.proofs.OwnSpots.{few_rows, own_spots, stands_within}
use Rattle.line_scene.proofs.laws.spots_law.Goals as goal

pub returns-clause-own : goal.returns-clause-own
returns-clause-own c = own_spots

pub returns-clause-within : goal.returns-clause-within
returns-clause-within c = stands_within

pub returns-clause-rows : goal.returns-clause-rows
returns-clause-rows c = few_rows
