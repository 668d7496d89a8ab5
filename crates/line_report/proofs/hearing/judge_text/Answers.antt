use Rattle.std.proofs.Common.{Ok, sym, ap, ◌∙◌}
use Rattle.line_report.specs.Verdicts.{JudgeFields, heard_all}
use Rattle.line_report.proofs.HeardTexts.{found_is, found_prints}
use Rattle.line_report.proofs.hearing.judge_text.Goals as goal

pub print_found-requires : goal.print_found-requires
print_found-requires c =
    let heard = c.in_ok-hear_to_end.ensures in
    found_prints c.args.plan.now c.args.bytes.now heard.0 c.hear_to_end.new.hearing.judge c.meets_conditions.ensures
    (c.in_ok-hearing.ensures.gives ∙ heard.1)
    (heard.2 ∙ ap (λ (judge : JudgeFields). heard_all judge heard.0) c.in_ok-hearing.ensures.judge)

pub returns-clause-exact : goal.returns-clause-exact
returns-clause-exact c =
    let heard = c.in_ok-hear_to_end.ensures in
    found_is c.args.plan.now c.args.bytes.now heard.0 c.hear_to_end.new.hearing.judge
    (c.in_ok-hearing.ensures.gives ∙ heard.1)
    (heard.2 ∙ ap (λ (judge : JudgeFields). heard_all judge heard.0) c.in_ok-hearing.ensures.judge)
    ∙ ap Ok (sym c.in_ok-text.ensures)
