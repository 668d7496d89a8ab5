use Rattle.std.proofs.Common.{◌≡◌, Some}
use Rattle.line_plan.specs.Frames.{berth_of}
use Rattle.box_desk.proofs.Fitting.{berth_fits, berth_is}
use Rattle.box_desk.proofs.equipment.Equipment.decide_by_word.Goals as goal

pub finish_berth-requires-clause-place : goal.finish_berth-requires-clause-place
finish_berth-requires-clause-place c =
    let is : berth_of c.args.plan.now c.in-Berth.way ≡ Some c.in-Some-berth.berth.now =
    berth_is _ _ c.berth-in-Berth.ensures c.in-Some-berth.is in
    (berth_fits c.args.plan.now c.args.self.now c.in-Berth.way c.in-Some-berth.berth.now c.requires.sound
    c.requires.fitted is).place

pub finish_part-requires-clause-place : goal.finish_part-requires-clause-place
finish_part-requires-clause-place c =
    let is : berth_of c.args.plan.now c.in-BerthPart.way ≡ Some c.in-Some-berth-2.berth.now =
    berth_is _ _ c.berth-in-BerthPart.ensures c.in-Some-berth-2.is in
    (berth_fits c.args.plan.now c.args.self.now c.in-BerthPart.way c.in-Some-berth-2.berth.now c.requires.sound
    c.requires.fitted is).place

pub finish_turn-requires-clause-agrees : goal.finish_turn-requires-clause-agrees
finish_turn-requires-clause-agrees c =
    let is : berth_of c.args.plan.now c.in-Turn.way ≡ Some c.in-Some.berth.now =
    berth_is _ _ c.berth.ensures c.in-Some.is in
    rw (c.in-Turn.is, is) at c.requires.agrees.1

pub returns-in-Some-clause-told : goal.returns-in-Some-clause-told
returns-in-Some-clause-told c =
    let is : berth_of c.args.plan.now c.in-Turn.way ≡ Some c.in-Some.berth.now =
    berth_is _ _ c.berth.ensures c.in-Some.is in
    λ line. rw (c.in-Turn.is, is) c.finish_turn.ensures.told

pub returns-in-Some-clause-fitted : goal.returns-in-Some-clause-fitted
returns-in-Some-clause-fitted c =
    c.finish_turn.ensures.fitted _ c.requires.fitted

pub finish_berth-requires-clause-agrees : goal.finish_berth-requires-clause-agrees
finish_berth-requires-clause-agrees c =
    let is : berth_of c.args.plan.now c.in-Berth.way ≡ Some c.in-Some-berth.berth.now =
    berth_is _ _ c.berth-in-Berth.ensures c.in-Some-berth.is in
    rw (c.in-Berth.is, is) at c.requires.agrees.1

pub returns-in-Some-berth-clause-told : goal.returns-in-Some-berth-clause-told
returns-in-Some-berth-clause-told c =
    let is : berth_of c.args.plan.now c.in-Berth.way ≡ Some c.in-Some-berth.berth.now =
    berth_is _ _ c.berth-in-Berth.ensures c.in-Some-berth.is in
    λ line. rw (c.in-Berth.is, is) c.finish_berth.ensures.told

pub returns-in-Some-berth-clause-fitted : goal.returns-in-Some-berth-clause-fitted
returns-in-Some-berth-clause-fitted c =
    c.finish_berth.ensures.fitted _ c.requires.fitted

pub finish_part-requires-clause-agrees : goal.finish_part-requires-clause-agrees
finish_part-requires-clause-agrees c =
    let is : berth_of c.args.plan.now c.in-BerthPart.way ≡ Some c.in-Some-berth-2.berth.now =
    berth_is _ _ c.berth-in-BerthPart.ensures c.in-Some-berth-2.is in
    rw (c.in-BerthPart.is, is) at c.requires.agrees.1

pub returns-in-Some-berth-2-clause-told : goal.returns-in-Some-berth-2-clause-told
returns-in-Some-berth-2-clause-told c =
    let is : berth_of c.args.plan.now c.in-BerthPart.way ≡ Some c.in-Some-berth-2.berth.now =
    berth_is _ _ c.berth-in-BerthPart.ensures c.in-Some-berth-2.is in
    λ line. rw (c.in-BerthPart.is, is) c.finish_part.ensures.told

pub returns-in-Some-berth-2-clause-fitted : goal.returns-in-Some-berth-2-clause-fitted
returns-in-Some-berth-2-clause-fitted c =
    c.finish_part.ensures.fitted _ c.requires.fitted

pub finish_pull-requires-clause-agrees : goal.finish_pull-requires-clause-agrees
finish_pull-requires-clause-agrees c =
    rw c.in-Pull.is at c.requires.agrees.1

pub returns-in-Pull-clause-told : goal.returns-in-Pull-clause-told
returns-in-Pull-clause-told c =
    λ line. rw c.in-Pull.is c.finish_pull.ensures.told

pub finish_clear-requires-clause-agrees : goal.finish_clear-requires-clause-agrees
finish_clear-requires-clause-agrees c =
    rw c.in-ClearPortion.is at c.requires.agrees.1

pub returns-in-ClearPortion-clause-told : goal.returns-in-ClearPortion-clause-told
returns-in-ClearPortion-clause-told c =
    λ line. rw c.in-ClearPortion.is c.finish_clear.ensures.told

pub returns-in-ClearPortion-clause-fitted : goal.returns-in-ClearPortion-clause-fitted
returns-in-ClearPortion-clause-fitted c =
    c.finish_clear.ensures.fitted _ c.requires.fitted

pub returns-in-Ring-clause-fitted : goal.returns-in-Ring-clause-fitted
returns-in-Ring-clause-fitted c =
    c.ring.ensures.fitted _ c.requires.fitted
