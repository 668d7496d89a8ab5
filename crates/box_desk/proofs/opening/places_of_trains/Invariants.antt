use Rattle.std.proofs.Common.{◌≡◌, map, take}
use Rattle.box_desk.proofs.opening.places_of_trains.Given as goal

abbrev pub invariant-loop-train : goal.invariant-loop-train
invariant-loop-train l = l.places.items ≡ map (λ train. train.place) (take l.train-index l.plan.trains)
