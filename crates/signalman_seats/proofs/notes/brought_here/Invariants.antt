use Rattle.std.proofs.Common.{◌≡◌, ◌==◌, map, take}
use Rattle.signalman_seats.proofs.notes.brought_here.Given as goal

abbrev pub invariant-loop-train : goal.invariant-loop-train
invariant-loop-train l = l.here.items ≡ map (λ train. train.box_no == l.box_no) (take l.train-index l.trains)
