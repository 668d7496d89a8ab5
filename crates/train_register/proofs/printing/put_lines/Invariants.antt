use Rattle.std.proofs.Common.{◌≡◌, ◌++◌, string_bytes, take}
use Rattle.train_register.specs.Registers.{told_lines}
use Rattle.train_register.proofs.printing.put_lines.Given as goal

abbrev pub invariant-loop-place : goal.invariant-loop-place
invariant-loop-place l = string_bytes l.out ≡ string_bytes l.fn.out ++ told_lines l.plan 1 (take l.place l.entries)
