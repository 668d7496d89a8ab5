use Rattle.std.proofs.Common.{◌≡◌, Some}
use Rattle.line_plan.specs.Frames.{berth_of}
use Rattle.box_desk.proofs.Fitting.{berth_fits, berth_is}
use Rattle.box_desk.proofs.equipment.Equipment.decide_locally.Goals as goal

pub turn_refusal-requires-clause-berth : goal.turn_refusal-requires-clause-berth
turn_refusal-requires-clause-berth c =
    let is : berth_of c.args.plan.now c.in-Turn.way ≡ Some c.in-Some.berth.now =
    berth_is _ _ c.berth.ensures c.in-Some.is in
    berth_fits c.args.plan.now c.args.self.now c.in-Turn.way c.in-Some.berth.now c.requires.sound c.requires.fitted is

pub berth_refusal-requires : goal.berth_refusal-requires
berth_refusal-requires c =
    let is : berth_of c.args.plan.now c.in-Berth.way ≡ Some c.in-Some-berth.berth.now =
    berth_is _ _ c.berth-in-Berth.ensures c.in-Some-berth.is in
    (berth_fits c.args.plan.now c.args.self.now c.in-Berth.way c.in-Some-berth.berth.now c.requires.sound
    c.requires.fitted is).place
