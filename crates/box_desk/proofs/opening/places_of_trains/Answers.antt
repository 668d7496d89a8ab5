use Rattle.std.proofs.Common.{rules, ◌≡◌, ℕ, ◌+◌, ◌<◌, List, [], ◌∷◌, ◌++◌, length, map, take, get_or, add-one, ap, sym}
use Rattle.std.proofs.Math.Seq.{take-suc}
use Rattle.std.proofs.lemmas.List.{map-append}
use Rattle.line_plan.specs.declared.plan.TrainPlan.{TrainPlan}
use Rattle.box_desk.proofs.opening.places_of_trains.Goals as goal

-- what is made of one item more
map_more : (f : TrainPlan → ℕ) (xs : List TrainPlan) (k : ℕ) (x : TrainPlan) → k < length xs → x ≡ get_or xs k x
    → map f (take (k + 1) xs) ≡ map f (take k xs) ++ f x ∷ []
map_more f xs k x inside is =
    rw (add-one, take-suc xs k x inside, map-append)
    (ap (λ (y : TrainPlan). map f (take k xs) ++ f y ∷ []) (sym is))

pub loop-train-preserved : goal.loop-train-preserved
loop-train-preserved c =
    let all : c.as_slice-train-items.result.now ≡ c.args.plan.now.trains = search rules in
    rw (c.in_ok-push.ensures.items, c.loop-train.invariant, ← all)
    (sym (map_more (λ (train : TrainPlan). train.place) c.as_slice-train-items.result.now c.loop-train.train-index
    c.train-item.result c.loop-train-test.true c.train-item.is))
