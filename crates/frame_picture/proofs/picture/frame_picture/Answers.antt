use Rattle.std.proofs.Common.{◌≡◌, ◌∙◌, List, ap, get_or, string_bytes, subst}
use Rattle.std.proofs.lemmas.List.{get_or_default}
use Rattle.line_plan.specs.Frames.{BoxFields}
use Rattle.line_plan.specs.Plans.{PlanFields, box_at}
use Rattle.frame_picture.specs.Pictures.{IsPicture}
use Rattle.frame_picture.specs.Scenes.{scene_of}
use Rattle.frame_picture.proofs.picture.frame_picture.Goals as goal

pub returns-clause-picture : goal.returns-clause-picture
returns-clause-picture c =
    let text = string_bytes c.in_ok-draw_scene.field-0 in
    let its = c.index-as_slice-box_no.result in
    let same : c.as_slice.result.now ≡ c.args.plan.now.boxes =
    c.as_slice.ensures ∙ ap (λ (plan : PlanFields). plan.boxes) c.plan.view_is in
    let here : its ≡ box_at c.args.plan.now.boxes c.args.box_no =
    c.index-as_slice-box_no.is ∙ (ap (λ (boxes : List BoxFields). get_or boxes c.args.box_no its) same
    ∙ get_or_default _ _ _ _ c.requires) in
    let IsIts : BoxFields → Type 0 = λ box_plan. IsPicture box_plan (scene_of box_plan) text in
    subst IsIts here (subst (λ scene. IsPicture its scene text) c.in_ok-scene.ensures.scene
    c.in_ok-draw_scene.ensures.picture)
