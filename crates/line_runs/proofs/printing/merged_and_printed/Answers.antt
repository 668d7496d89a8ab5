use Rattle.std.proofs.Common.{rules}
use Rattle.std.proofs.lemmas.Result.{IfOk-weaker}
use Rattle.line_runs.proofs.BothHold.{both_hold}
use Rattle.line_runs.proofs.ScriptsWorked.{worked_printable}
use Rattle.line_runs.proofs.printing.merged_and_printed.Goals as goal

pub join-merged-requires-after_bounds : goal.join-merged-requires-after_bounds
join-merged-requires-after_bounds g c κs within = (
  (c.requires.scripts, c.requires.worked),
  (
    worked_printable c.args.plan.now c.args.scripts.now c.args.ended.now.registers c.meets_conditions.ensures
        c.requires.worked,
    search rules,
  ),
)

pub returns-clause-journal : goal.returns-clause-journal
returns-clause-journal g c =
    IfOk-weaker c.both_made.result _ _ (λ r is. is.0.journal)
    (both_hold _ _ _ _ _ c.both_made.ensures c.join-merged.ensures.first c.join-merged.ensures.second)

pub returns-clause-printed : goal.returns-clause-printed
returns-clause-printed g c =
    IfOk-weaker c.both_made.result _ _
    (λ r is. record { registers = c.args.ended.now.registers; printed = is.0.printed; same = is.1 })
    (both_hold _ _ _ _ _ c.both_made.ensures c.join-merged.ensures.first c.join-merged.ensures.second)
