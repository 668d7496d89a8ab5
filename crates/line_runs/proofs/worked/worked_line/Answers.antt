use Rattle.std.proofs.lemmas.Result.{IfOk-weaker}
use Rattle.line_runs.proofs.worked.worked_line.Goals as goal

pub returns-clause-journal : goal.returns-clause-journal
returns-clause-journal g c = IfOk-weaker c.merged_line.result _ _ (λ line is. is.journal) c.merged_line.ensures.line

pub returns-clause-parts : goal.returns-clause-parts
returns-clause-parts g c = IfOk-weaker c.merged_line.result _ _ (λ line is. is.printed.parts) c.merged_line.ensures.line

pub returns-clause-few : goal.returns-clause-few
returns-clause-few g c = IfOk-weaker c.merged_line.result _ _ (λ line is. is.printed.few) c.merged_line.ensures.line

pub returns-clause-spelled : goal.returns-clause-spelled
returns-clause-spelled g c =
    IfOk-weaker c.merged_line.result _ _ (λ line is. is.printed.spelled) c.merged_line.ensures.line

pub returns-clause-printable : goal.returns-clause-printable
returns-clause-printable g c =
    IfOk-weaker c.merged_line.result _ _ (λ line is. is.printed.printable) c.merged_line.ensures.line
