use Rattle.std.proofs.Common.{◌≡◌, ◌++◌, string_bytes, take}
use Rattle.std.specs.List.{flat_map}
use Rattle.train_register.specs.Registers.{register_text}
use Rattle.train_register.proofs.printing.put_each.Given as goal

abbrev pub invariant-loop-register : goal.invariant-loop-register
invariant-loop-register l =
    string_bytes l.out
    ≡ string_bytes l.fn.out
    ++ flat_map (λ register. register_text l.plan register.box_no register.entries) (take l.register-index l.registers)
