use Rattle.std.proofs.Common.{◌≡◌, take}
use Rattle.plan_text.proofs.copies.copied_classes.Given as goal

abbrev pub invariant-loop-class_plan : goal.invariant-loop-class_plan
invariant-loop-class_plan l = l.copied.items ≡ take l.class_plan-index l.classes
