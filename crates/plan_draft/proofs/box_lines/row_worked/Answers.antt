use Rattle.std.proofs.Common.{List, map, ap, ◌∙◌}
use Rattle.locking_table.specs.declared.row.Cond.{Cond}
use Rattle.plan_draft.specs.BoxLines.{all_worked}
use Rattle.plan_draft.proofs.Worked.{worked_rest}
use Rattle.plan_draft.proofs.box_lines.row_worked.Goals as goal

pub returns : goal.returns
returns c =
    worked_rest c.args.here.now c.args.row.now.subject _ _ _ c.in_ok-worked.ensures
    (worked_rest c.args.here.now c.args.row.now.object _ _ _ c.in_ok-worked-2.ensures
    (c.conds_worked.ensures
    ∙ ap (λ (conds : List Cond). all_worked c.args.here.now (map (λ cond. cond.lever) conds)) c.as_slice.ensures.same))
