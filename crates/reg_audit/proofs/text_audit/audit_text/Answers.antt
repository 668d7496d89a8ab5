use Rattle.std.proofs.Common.{Ok, sym, ap, ◌∙◌}
use Rattle.line_report.specs.Verdicts.{JudgeFields, heard_all}
use Rattle.line_report.proofs.HeardTexts.{found_prints}
use Rattle.reg_audit.specs.Texts.{audit_text}
use Rattle.reg_audit.proofs.HeardAudited.{audit_is, verdict_is}
use Rattle.reg_audit.proofs.text_audit.audit_text.Goals as goal
use Rattle.reg_audit.proofs.text_audit.audit_text.Goals.{in-Legal+in_ok-text-in-Legal, in-WrongAt+in_ok-text-in-WrongAt}

pub print_found-requires : goal.print_found-requires
print_found-requires c =
    let heard = c.in_ok-audit_to_end.ensures in
    found_prints c.args.plan.now c.args.bytes.now heard.0 c.audit_to_end.new.hearing.judge c.meets_conditions.ensures
    (c.in_ok-hearing.ensures.gives ∙ heard.1)
    (heard.2 ∙ ap (λ (judge : JudgeFields). heard_all judge heard.0) c.in_ok-hearing.ensures.judge)

pub returns-clause-exact : goal.returns-clause-exact
returns-clause-exact c =
    let heard = c.in_ok-audit_to_end.ensures in
    let read = c.in_ok-hearing.ensures.gives ∙ heard.1 in
    let judged = heard.2 ∙ ap (λ (judge : JudgeFields). heard_all judge heard.0) c.in_ok-hearing.ensures.judge in
    elim c.match-verdict.branch [
      | in-Legal+in_ok-text-in-Legal w ↦
          audit_is c.args.plan.now c.args.bytes.now heard.0 c.audit_to_end.new.hearing.judge
          c.audit_to_end.new.auditor read judged (sym c.verdict.ensures ∙ w.in-Legal.is) heard.3
          ∙ ap Ok (sym (ap (λ text. text.items) w.text-is ∙ w.in_ok-text-in-Legal.ensures
          ∙ ap audit_text (w.deref.ensures.value ∙ w.into_found.ensures)))
      | in-WrongAt+in_ok-text-in-WrongAt w ↦
          verdict_is c.args.plan.now c.args.bytes.now heard.0 c.audit_to_end.new.hearing.judge _ _ _ read judged
          (sym c.verdict.ensures ∙ w.in-WrongAt.is)
          ∙ ap Ok (sym (ap (λ text. text.items) w.text-is ∙ w.in_ok-text-in-WrongAt.ensures))
    ]
