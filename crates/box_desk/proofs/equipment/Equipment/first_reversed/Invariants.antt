use Rattle.std.proofs.Common.{◌≡◌, drop}
use Rattle.line_law.specs.LeverEnds.{first_reversed}
use Rattle.box_desk.proofs.equipment.Equipment.first_reversed.Given as goal

abbrev pub invariant-loop-lever : goal.invariant-loop-lever
invariant-loop-lever l =
    first_reversed l.self.frame.ends (drop l.lever-index l.levers)
    ≡ first_reversed l.self.frame.ends l.levers
