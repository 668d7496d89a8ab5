use Rattle.std.proofs.lemmas.Result.{IfOk-weaker}
use Rattle.signalbox_top.proofs.walking.walked.Goals as goal

pub returns-clause-report : goal.returns-clause-report
returns-clause-report g c =
    IfOk-weaker c.reported-report.result _ _
    (λ text is. record {
      plan = c.in_ok-plan.plan;
      box_no = c.in_ok-plan.box_no;
      frame_is = c.in_ok-plan.ensures.frame;
      asked = c.in_ok-asked.asked;
      asked_is = c.in_ok-asked.ensures.asked;
      report = is;
    })
    c.reported-report.ensures
