use Rattle.std.proofs.Common.{◌∙◌}
use Rattle.line_rehearsal.proofs.UnderWay.{way_opens}
use Rattle.line_rehearsal.proofs.rehearsal.rehearse.Goals as goal

pub rehearsed_entries-requires-clause-way : goal.rehearsed_entries-requires-clause-way
rehearsed_entries-requires-clause-way c =
    way_opens c.args.plan.now c.args.scripts.now _ c.in_ok-line.line c.meets_conditions.ensures c.requires
    c.in_ok-line.ensures.line c.in_ok-line.ensures.opening
    (c.deref_mut.ensures.value ∙ c.in_ok-made.ensures.items_if_clones_equal (λ y e. e))
