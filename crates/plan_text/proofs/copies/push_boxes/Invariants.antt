use Rattle.std.proofs.Common.{◌≡◌, take}
use Rattle.plan_text.proofs.copies.push_boxes.Given as goal

abbrev pub invariant-loop-here : goal.invariant-loop-here
invariant-loop-here l = l.copied.items ≡ take l.here-index l.boxes
