use Rattle.std.proofs.Common.{Bool, List, ◌++◌, ap, map, sym, ◌∙◌}
use Rattle.std.specs.Prelude.{filter}
use Rattle.reg_audit.specs.declared.rule.Rule.{Rule}
use Rattle.reg_audit.specs.declared.rule.Rule.TheVariants.{Offer}
use Rattle.reg_audit.specs.Marks.{is_broken}
use Rattle.reg_audit.proofs.InOrder.{breach_by, rule_broken, rule_kept}
use Rattle.reg_audit.proofs.RulesOn.{only_these}
use Rattle.reg_audit.proofs.auditing.add_breaches.Goals as goal
use Rattle.reg_audit.proofs.auditing.add_breaches.Goals.{then-is_broken+in_ok-push, else-is_broken}

pub loop-rule-init : goal.loop-rule-init
loop-rule-init c =
    let broken : Rule → Bool = is_broken c.args.plan.now c.args.marks.now c.args.held c.args.deed.now in
    ap (λ (rules : List Rule). c.args.found.now.items ++ map (breach_by c.args.number) (filter broken rules))
    c.rules_on-rule-items.ensures
    ∙ ap (λ (rules : List Rule). c.args.found.now.items ++ map (breach_by c.args.number) rules)
    (only_these c.args.plan.now c.args.marks.now c.args.held c.args.deed.now)

pub loop-rule-preserved : goal.loop-rule-preserved
loop-rule-preserved c =
    let broken : Rule → Bool = is_broken c.args.plan.now c.args.marks.now c.args.held c.args.deed.now in
    let among : List Rule = c.rules_on-rule-items.result.now in
    elim c.if-is_broken.branch [
      | then-is_broken+in_ok-push w ↦ rw (w.found-is, w.in_ok-push.ensures.items) (rule_broken c.args.number broken
          among c.loop-rule.rule-index Offer c.loop-rule.found.items _ c.loop-rule-test.true c.loop-rule.invariant
          (sym c.is_broken.ensures ∙ w.if-is_broken.true))
      | else-is_broken w ↦ rw w.found-is (rule_kept c.args.number broken among c.loop-rule.rule-index Offer
          c.loop-rule.found.items _ c.loop-rule-test.true c.loop-rule.invariant
          (sym c.is_broken.ensures ∙ w.if-is_broken.false))
    ]
