use Rattle.std.proofs.Common.{ℕ, ◌≡◌, ◌<◌, ◌≤◌, true, false, slice_index_or}
use Rattle.line_journal.proofs.merging.next_awake.Given as goal

abbrev pub invariant-loop-box_no : goal.invariant-loop-box_no
invariant-loop-box_no l = (c : ℕ) → l.from ≤ c → c < l.box_no → slice_index_or l.awake c true ≡ false
