use Rattle.std.specs.Prelude.{slice_index}
use Rattle.std.proofs.Common.{◌≡◌, ℕ, ◌<◌, [], length}
use Rattle.train_register.specs.Registers.{register_at}
use Rattle.train_register.proofs.ended.open_registers.Given as goal

abbrev pub invariant-loop-box_no : goal.invariant-loop-box_no
invariant-loop-box_no l =
    record {
      each : length l.registers.items ≡ l.box_no;
      opened : (b : ℕ) → b < l.box_no
          → register_at l.registers.items b ≡ record { box_no = b; entries = []; spare = slice_index l.rooms b };
    }
