use Rattle.std.proofs.Common.{◌+◌, [], drop, take}
use Rattle.std.proofs.lemmas.Result.{IfOk-weaker}
use Rattle.line_runs.specs.Copying.{AreCopied}
use Rattle.line_runs.proofs.BothHold.{both_hold}
use Rattle.line_runs.proofs.Printed.{copied_on}
use Rattle.line_runs.proofs.printing.copy_behind.Goals as goal

pub returns : goal.returns
returns g c =
    let plan = c.args.plan.now in
    let es = c.args.merged.now in
    let from = c.args.from in
    let to = c.args.to in
    IfOk-weaker c.both_made.result _ _
    (λ r are. copied_on plan es from to r.0 r.1 are.0 are.1 c.requires.from c.requires.to)
    (both_hold _ _ _ (AreCopied plan [] (from + 1) (drop from (take to es))) (AreCopied plan [] (to + 1) (drop to es))
    c.both_made.ensures c.join-middle.ensures.first c.join-middle.ensures.second)
