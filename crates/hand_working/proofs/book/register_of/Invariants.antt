use Rattle.std.proofs.Common.{◌≡◌, ◌+◌, ◌≤◌, length, take}
use Rattle.line_law.specs.History.{part_of}
use Rattle.hand_working.proofs.book.register_of.Given as goal

abbrev pub invariant-loop-entry : goal.invariant-loop-entry
invariant-loop-entry l = record {
  box : l.register.box_no ≡ l.box_no;
  entries : l.register.entries ≡ part_of l.box_no (take l.entry-index l.entries);
  room : length l.entries ≤ l.register.spare + l.entry-index;
}
