use Rattle.std.proofs.Common.{sym}
use Rattle.line_law.proofs.Clears.{berth_here}
use Rattle.line_law.proofs.step.perform_by.Goals as goal

pub turn-requires-clause-berth : goal.turn-requires-clause-berth
turn-requires-clause-berth c =
    berth_here _ _ _ _ c.in-Some.berth.now c.requires.ready.sound c.requires.ready.shape (sym c.in-Some.ensures)

pub berth-requires-in-Some-berth-clause-place : goal.berth-requires-in-Some-berth-clause-place
berth-requires-in-Some-berth-clause-place c =
    (berth_here _ _ _ _ c.in-Some-berth.berth.now c.requires.ready.sound c.requires.ready.shape
    (sym c.in-Some-berth.ensures)).place

pub berth_part-requires-clause-place : goal.berth_part-requires-clause-place
berth_part-requires-clause-place c =
    (berth_here _ _ _ _ c.in-Some-berth-2.berth.now c.requires.ready.sound c.requires.ready.shape
    (sym c.in-Some-berth-2.ensures)).place

pub returns-in-Ring : goal.returns-in-Ring
returns-in-Ring c = rw c.in-Ring.is c.ring.ensures

pub returns-in-Pull : goal.returns-in-Pull
returns-in-Pull c = rw c.in-Pull.is c.pull.ensures

pub returns-in-Pass : goal.returns-in-Pass
returns-in-Pass c = rw c.in-Pass.is c.pass.ensures

pub returns-in-Overrun : goal.returns-in-Overrun
returns-in-Overrun c = rw c.in-Overrun.is c.overrun.ensures

pub returns-in-AwaitTrain : goal.returns-in-AwaitTrain
returns-in-AwaitTrain c = rw c.in-AwaitTrain.is c.look_plain_line.ensures

pub returns-in-ClearPortion : goal.returns-in-ClearPortion
returns-in-ClearPortion c = rw c.in-ClearPortion.is c.clear_portion.ensures
