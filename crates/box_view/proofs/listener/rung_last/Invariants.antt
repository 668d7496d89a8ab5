use Rattle.std.proofs.Common.{◌≡◌, None, drop}
use Rattle.box_view.specs.Listeners.{rung_last}
use Rattle.box_view.proofs.listener.rung_last.Given as goal

abbrev pub invariant-loop-entry : goal.invariant-loop-entry
invariant-loop-entry l =
    rung_last l.box_no l.side l.last (drop l.entry-index l.entries) ≡ rung_last l.box_no l.side None l.entries
