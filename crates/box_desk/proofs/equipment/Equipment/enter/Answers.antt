use Rattle.std.proofs.Common.{ap, ◌∙◌}
use Rattle.line_plan.specs.declared.signal.To.{To}
use Rattle.line_law.specs.Trains.{left_by}
use Rattle.box_desk.specs.Boxes.{here_of}
use Rattle.box_desk.specs.TrainMoves.{gone_to}
use Rattle.box_desk.proofs.Entering.{entered_by_word, full_by_word}
use Rattle.box_desk.proofs.equipment.Equipment.enter.Goals as goal

pub returns-then-lane-ne0-clause-told : goal.returns-then-lane-ne0-clause-told
returns-then-lane-ne0-clause-told c = λ train line stands agrees packs.
    full_by_word _ _ c.args.way train line _ _ _ agrees packs c.get-k.ensures c.lane.ensures.train c.if-lane-ne0.true

pub returns-clause-told : goal.returns-clause-told
returns-clause-told c = λ train line stands agrees packs.
    entered_by_word _ _ c.args.way train line _ _ _ _ _ _ _ agrees packs c.get-k.ensures c.lane.ensures.train
    c.if-lane-ne0.false stands c.go-train.ensures.train
    (c.go-train.ensures.here ∙ ap (λ (to : To). gone_to to c.go-train.result
    (left_by c.args.plan.now (here_of c.args.self.now) c.args.signal.now)) c.requires.to)
    c.set.ensures
