-- How the registers of a line are made of its journal.
use Rattle.std.specs.Prelude.{◌≡◌, ℕ, ◌<◌, List, [], length, map, slice_index}
use Rattle.std.specs.List.{range_with_len}
use Rattle.line_law.specs.declared.call.Entry.{Entry}
use Rattle.line_law.specs.History.{part_of}
use Rattle.train_register.specs.Registers.{RegisterFields, register_at}

-- how many entries each of so many boxes has
abbrev pub counts_of : ℕ → List Entry → List ℕ
counts_of boxes es = map (λ b. length (part_of b es)) (range_with_len 0 boxes)

-- registers with nothing in them, one for each box in order, with so much room in each
abbrev pub AreOpened : List ℕ → List RegisterFields → Type 0
AreOpened rooms registers = (b : ℕ) → b < length rooms
    → register_at registers b ≡ record { box_no = b; entries = []; spare = slice_index rooms b }

-- the register of box b where some entries of the line are entered, with the room for those that are left
abbrev pub filling : List Entry → List Entry → ℕ → RegisterFields
filling entered left b = record { box_no = b; entries = part_of b entered; spare = length (part_of b left) }

-- the registers of all boxes where some entries of the line are entered, and others are left
abbrev pub AreFilling : List Entry → List Entry → List RegisterFields → Type 0
AreFilling entered left registers = (b : ℕ) → b < length registers → register_at registers b ≡ filling entered left b
