use Rattle.box_desk.proofs.Counts.{few_taken}
use Rattle.box_desk.proofs.equipment.Equipment.met.Goals as goal

pub next_number-requires : goal.next_number-requires
next_number-requires c = few_taken c.args.self.now c.in-AwaitTrain.way c.requires.few
