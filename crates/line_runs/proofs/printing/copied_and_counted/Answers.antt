use Rattle.std.proofs.Common.{◌*◌, ◌/◌, ◌+◌, [], arith, drop, take}
use Rattle.std.proofs.lemmas.Result.{IfOk-weaker}
use Rattle.line_report.specs.Journals.{heading_text}
use Rattle.line_runs.specs.Copying.{AreCopied, one_behind}
use Rattle.line_runs.specs.Counting.{AreCountsTold}
use Rattle.line_runs.proofs.BothHold.{both_hold}
use Rattle.line_runs.proofs.Printed.{in_halves}
use Rattle.line_runs.proofs.printing.copied_and_counted.Goals as goal

pub returns-clause-lines : goal.returns-clause-lines
returns-clause-lines g c =
    let plan = c.args.plan.now in
    let es = c.args.merged.now in
    let many = c.len.result / 5 * 2 in
    let long = c.len.ensures in
    IfOk-weaker c.both_made.result _ _
    (λ r are. in_halves plan es many r.0.0 (one_behind r.1.0 r.1.1) are.0.0 are.1 (omega (arith, long)))
    (both_hold _ _ _ (λ r. AreCopied plan (heading_text plan) 1 (take many es) r.0
    × AreCountsTold plan es r.1.0.items r.1.1.items)
    (λ r. AreCopied plan [] (many + 1) (drop many es) (one_behind r.0 r.1))
    c.both_made.ensures c.join-front.ensures.first c.join-front.ensures.second)

pub returns-clause-counts : goal.returns-clause-counts
returns-clause-counts g c =
    let plan = c.args.plan.now in
    let es = c.args.merged.now in
    let many = c.len.result / 5 * 2 in
    IfOk-weaker c.both_made.result _ _ (λ r are. are.0.1)
    (both_hold _ _ _ (λ r. AreCopied plan (heading_text plan) 1 (take many es) r.0
    × AreCountsTold plan es r.1.0.items r.1.1.items)
    (λ r. AreCopied plan [] (many + 1) (drop many es) (one_behind r.0 r.1))
    c.both_made.ensures c.join-front.ensures.first c.join-front.ensures.second)
