use Rattle.std.proofs.Common.{◌≡◌, drop, map}
use Rattle.plan_draft.specs.BoxLines.{all_worked}
use Rattle.plan_draft.proofs.box_lines.conds_worked.Given as goal

abbrev pub invariant-loop-cond : goal.invariant-loop-cond
invariant-loop-cond l =
    all_worked l.here (map (λ cond. cond.lever) (drop l.cond-index l.conds))
    ≡ all_worked l.here (map (λ cond. cond.lever) l.conds)
