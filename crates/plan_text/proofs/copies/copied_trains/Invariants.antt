use Rattle.std.proofs.Common.{◌≡◌, take}
use Rattle.plan_text.proofs.copies.copied_trains.Given as goal

abbrev pub invariant-loop-train : goal.invariant-loop-train
invariant-loop-train l = l.copied.items ≡ take l.train-index l.trains
