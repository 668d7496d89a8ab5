use Rattle.std.proofs.Common.{◌∙◌}
use Rattle.line_film.proofs.Framed.{same_count}
use Rattle.line_film.proofs.frames.frames_of.Goals as goal

pub changes_of-requires : goal.changes_of-requires
changes_of-requires c =
    same_count c.args.plan.now c.args.entries.now c.loop-at.at c.loop-at.line c.seen_next.new.line _ _
    c.loop-at.invariant.line c.in_ok-after.ensures.line c.loop-at.invariant.state c.in_ok-after.ensures.state
    (c.deref.ensures.value ∙ c.loop-at.invariant.before)
    (c.deref-in-loop-at.ensures.value ∙ c.in_ok-after.ensures.seen)
