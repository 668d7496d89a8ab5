use Rattle.std.proofs.Common.{◌≡◌, Some, bytes_eq, position, sym, subst, ◌∙◌}
use Rattle.line_plan.specs.Plans.{PlanFields, names_of}
use Rattle.line_report.proofs.Boxes.{is_named}
use Rattle.line_report.proofs.entry_line.names_box.Goals as goal

pub returns-then-box_no-len : goal.returns-then-box_no-len
returns-then-box_no-len c same =
    subst (λ (plan : PlanFields). position (bytes_eq c.args.word.now) (names_of plan.boxes) ≡ Some c.args.box_no)
    c.plan.view_is
    (is_named c.plan.inside.boxes c.plan.inside.box_names c.args.box_no c.name_of.result.now c.args.word.now
    c.plan.invariant.2 c.name_of.ensures.numbered c.name_of.ensures.name
    (sym c.as_bytes.ensures.value ∙ c.is_spelled_by.ensures.0 same))
