use Rattle.std.proofs.Common.{◌≡◌, ◌++◌, map, take}
use Rattle.train_register.specs.Registers.{register_text}
use Rattle.line_runs.proofs.printing.push_each.Given as goal

abbrev pub invariant-loop-register : goal.invariant-loop-register
invariant-loop-register l =
    l.printed
    ≡ l.fn.printed
    ++ map (λ register. register_text l.plan register.box_no register.entries) (take l.register-index l.registers)
