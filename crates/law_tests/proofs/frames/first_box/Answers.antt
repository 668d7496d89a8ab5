use Rattle.std.proofs.Common.{◌≡◌, ◌<◌, List, length, slice_index_or, sym, ap, ◌∙◌, subst, arith}
use Rattle.std.proofs.lemmas.List.{get_or_default}
use Rattle.line_plan.specs.Frames.{BoxFields}
use Rattle.line_plan.specs.Plans.{PlanFields, box_at, no_box}
use Rattle.line_law.specs.Sound.{IsSound}
use Rattle.line_law.proofs.PlanFacts.{plan_sound}
use Rattle.law_tests.proofs.frames.first_box.Goals as goal

pub returns : goal.returns
returns c =
    let some : 0 < length c.args.plan.now.boxes = (let two = c.meets_conditions.ensures.fewest in omega arith) in
    let lent : c.as_slice.result.now ≡ c.args.plan.now.boxes =
    c.as_slice.ensures ∙ ap (λ (plan : PlanFields). plan.boxes) c.plan.view_is in
    let first : c.index-as_slice-0.result ≡ box_at c.args.plan.now.boxes 0 =
    c.index-as_slice-0.is
    ∙ (ap (λ (boxes : List BoxFields). slice_index_or boxes 0 c.index-as_slice-0.result) lent
    ∙ get_or_default c.args.plan.now.boxes 0 c.index-as_slice-0.result no_box some) in
    subst (λ (box_plan : BoxFields). IsSound box_plan) (sym first)
    (plan_sound c.args.plan.now 0 c.meets_conditions.ensures some)
