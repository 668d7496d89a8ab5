use Rattle.box_desk.proofs.Preparing.{asks, decides}
use Rattle.box_desk.proofs.equipment.Equipment.prepare.Goals as goal

pub returns-in-Some-clause-told : goal.returns-in-Some-clause-told
returns-in-Some-clause-told c = λ line kept.
    decides _ _ _ _ _ _ c.in-Some.is (c.decide_locally.ensures.told line kept)

pub returns-in-None-clause-told : goal.returns-in-None-clause-told
returns-in-None-clause-told c = λ line kept.
    asks _ c.args.plan.now c.args.call.now _ _ _ _ c.in-None.is (c.decide_locally.ensures.told line kept) c.ask.ensures
