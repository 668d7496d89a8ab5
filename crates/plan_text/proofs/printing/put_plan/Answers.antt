use Rattle.std.proofs.Common.{◌≡◌, List, ◌++◌, map, drop, subst, ap, ◌∙◌, string_bytes}
use Rattle.std.specs.List.{flat_map}
use Rattle.std.proofs.lemmas.Result.{IfOk-weaker}
use Rattle.line_plan.specs.Frames.{BoxFields}
use Rattle.line_plan.specs.Plans.{PlanFields}
use Rattle.plan_text.specs.Printing.{head_lines, class_line, box_lines, train_line, plan_lines, plan_text, printed}
use Rattle.plan_text.proofs.Printed.{whole}
use Rattle.plan_text.proofs.printing.put_plan.Goals as goal

pub returns : goal.returns
unfolding plan_lines plan_text
returns c =
    let plan = c.args.plan.now in
    IfOk-weaker c.put_first.result _ _
    (λ _ end. whole _ _ _ _ _ _ (head_lines plan) (map (class_line plan.codes) (drop 4 plan.classes))
    (flat_map box_lines plan.boxes) (map (train_line plan) plan.trains)
    c.in_ok-put_head.ensures
    c.in_ok-put_classes.ensures
    (subst (λ (boxes : List BoxFields). string_bytes c.put_boxes.new.out
    ≡ string_bytes c.put_classes.new.out ++ printed (flat_map box_lines boxes))
    (c.as_slice.ensures ∙ ap (λ (p : PlanFields). p.boxes) c.plan.view_is) c.in_ok-put_boxes.ensures)
    c.in_ok-put_trains.ensures
    end)
    c.put_first.ensures
