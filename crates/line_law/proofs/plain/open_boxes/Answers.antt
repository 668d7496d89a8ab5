use Rattle.std.proofs.Common.{◌≡◌, ℕ, ◌+◌, ◌<◌, List, [], ◌∷◌, ◌++◌, length, map, take, get_or, add-one, ap, sym}
use Rattle.std.proofs.Math.Seq.{take-suc}
use Rattle.std.proofs.lemmas.List.{map-append}
use Rattle.line_plan.specs.Frames.{BoxFields}
use Rattle.line_law.specs.declared.state.BoxState.{BoxState}
use Rattle.line_law.specs.States.{opening_box}
use Rattle.line_law.proofs.plain.open_boxes.Goals as goal

-- what is made of one item more
map_more : (f : BoxFields → BoxState) (xs : List BoxFields) (k : ℕ) (x : BoxFields) → k < length xs
    → x ≡ get_or xs k x → map f (take (k + 1) xs) ≡ map f (take k xs) ++ f x ∷ []
map_more f xs k x inside is =
    rw (add-one, take-suc xs k x inside, map-append)
    (ap (λ (y : BoxFields). map f (take k xs) ++ f y ∷ []) (sym is))

pub loop-box_plan-preserved : goal.loop-box_plan-preserved
loop-box_plan-preserved c =
    rw (c.in_ok-push.ensures.items, c.loop-box_plan.invariant, c.in_ok-open.ensures)
    (sym (map_more (λ (box_plan : BoxFields). opening_box c.args.trains box_plan) c.args.boxes.now
    c.loop-box_plan.box_plan-index c.box_plan-item.result c.loop-box_plan-test.true c.box_plan-item.is))
