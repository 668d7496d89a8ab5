use Rattle.box_desk.specs.Boxes.{here_of}
use Rattle.box_desk.proofs.Fitting.{moves_free}
use Rattle.box_desk.proofs.equipment.Equipment.finish_move.Goals as goal

pub enter-requires-clause-free : goal.enter-requires-clause-free
enter-requires-clause-free c =
    moves_free c.args.overrun c.args.plan.now (here_of c.args.self.now) c.args.signal.now c.requires.agrees.on_word
