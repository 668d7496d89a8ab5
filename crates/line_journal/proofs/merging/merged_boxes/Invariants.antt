use Rattle.std.proofs.Common.{◌+◌, ◌-◌, ◌*◌, length}
use Rattle.line_journal.specs.Lists.{count_left}
use Rattle.line_journal.specs.Order.{lists_of}
use Rattle.line_journal.proofs.Steps.{IsMerging}
use Rattle.line_journal.proofs.merging.merged_boxes.Given as goal

abbrev pub invariant-loop-box_no : goal.invariant-loop-box_no
invariant-loop-box_no l =
    IsMerging l.plan (lists_of l.ended.registers) l.boxes.items l.merge

abbrev pub decreases-loop-box_no : goal.decreases-loop-box_no
decreases-loop-box_no l =
    count_left l.merge.left * (length l.plan.boxes + 1) + (length l.plan.boxes - l.merge.from)
