use Rattle.std.proofs.Common.{◌≡◌, ◌++◌, drop}
use Rattle.signalbox_top.specs.WalkedFrames.{working_numbers}
use Rattle.signalbox_top.proofs.walking.working_numbers.Given as goal

abbrev pub invariant-loop-lever : goal.invariant-loop-lever
invariant-loop-lever l =
    l.numbers.items ++ working_numbers (drop l.lever-index l.levers) ≡ working_numbers l.levers
