use Rattle.std.proofs.Common.{take, drop}
use Rattle.train_register.specs.Filling.{AreFilling}
use Rattle.train_register.proofs.ended.enter_all.Given as goal

abbrev pub invariant-loop-entry : goal.invariant-loop-entry
invariant-loop-entry l = AreFilling (take l.entry-index l.entries) (drop l.entry-index l.entries) l.registers
