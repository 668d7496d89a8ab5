use Rattle.std.proofs.Common.{◌≡◌, true, false, length, sym, ap, ◌∙◌, arith}
use Rattle.line_plan.specs.Plans.{names_of, names_of_classes, names_of_trains}
use Rattle.plan_draft.proofs.Classes.{opening_length}
use Rattle.plan_draft.proofs.draft.PlanDraft.opening.Goals as goal

pub invariant_of-result : goal.invariant_of-result
invariant_of-result c = (
  c.requires.names ∙ sym (ap names_of_classes c.requires.classes),
  c.new-4.ensures ∙ sym (ap names_of c.new.ensures.items),
  c.new-5.ensures ∙ sym (ap names_of_trains c.new-2.ensures.items),
  omega (arith, ap length c.requires.codes, opening_length, ap length c.requires.names),
  λ (is : false ≡ true). absurd cc,
)
