use Rattle.std.proofs.Common.{◌≡◌, sym, subst}
use Rattle.line_report.specs.Verdicts.{CanPrint, JudgeFields}
use Rattle.line_report.specs.declared.judging.Verdict.TheVariants.{WrongAt}
use Rattle.line_report.proofs.judging.Judgement.put_found.Goals as goal

pub put_wrong-requires-clause-box_no : goal.put_wrong-requires-clause-box_no
put_wrong-requires-clause-box_no c =
    (subst (λ (judge : JudgeFields). judge.verdict ≡ WrongAt c.in-WrongAt.line c.in-WrongAt.said c.in-WrongAt.law
    → CanPrint judge.plan judge.box_no c.in-WrongAt.said c.in-WrongAt.law) (sym c.self.view_is)
    (c.requires c.in-WrongAt.line c.in-WrongAt.said c.in-WrongAt.law) c.in-WrongAt.is).box

pub put_wrong-requires-clause-said : goal.put_wrong-requires-clause-said
put_wrong-requires-clause-said c =
    (subst (λ (judge : JudgeFields). judge.verdict ≡ WrongAt c.in-WrongAt.line c.in-WrongAt.said c.in-WrongAt.law
    → CanPrint judge.plan judge.box_no c.in-WrongAt.said c.in-WrongAt.law) (sym c.self.view_is)
    (c.requires c.in-WrongAt.line c.in-WrongAt.said c.in-WrongAt.law) c.in-WrongAt.is).said_there

pub put_wrong-requires-clause-law : goal.put_wrong-requires-clause-law
put_wrong-requires-clause-law c =
    (subst (λ (judge : JudgeFields). judge.verdict ≡ WrongAt c.in-WrongAt.line c.in-WrongAt.said c.in-WrongAt.law
    → CanPrint judge.plan judge.box_no c.in-WrongAt.said c.in-WrongAt.law) (sym c.self.view_is)
    (c.requires c.in-WrongAt.line c.in-WrongAt.said c.in-WrongAt.law) c.in-WrongAt.is).law_there
