use Rattle.std.proofs.Common.{Bool, ap, sym, ◌∙◌}
use Rattle.train_moves.specs.Moves.{move_test}
use Rattle.box_desk.specs.Boxes.{here_of}
use Rattle.box_desk.proofs.Moving.{locally_is, move_stopped}
use Rattle.box_desk.proofs.equipment.Equipment.move_locally.Goals as goal

pub returns-in-Occupied-clause-told : goal.returns-in-Occupied-clause-told
returns-in-Occupied-clause-told c =
    locally_is _ _ _ _ (move_stopped c.args.overrun c.args.plan.now (here_of c.args.self.now) c.args.signal.now
    c.in-Occupied.place c.in-Occupied.train
    (ap (λ (off : Bool). move_test c.args.self.now.tracks c.args.signal.now off c.args.overrun)
    (sym c.arm_off-arm_off.ensures) ∙ sym c.move_test.ensures.answer ∙ c.in-Occupied.is))
