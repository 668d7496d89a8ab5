use Rattle.std.proofs.Common.{arith, take}
use Rattle.line_service.proofs.Kept.{follows_next, kept_line, kept_more, may_on_line}
use Rattle.line_service.proofs.replay.replay.Goals as goal

pub perform-requires-clause-line : goal.perform-requires-clause-line
perform-requires-clause-line c =
    kept_line _ (take c.loop-at.at c.args.entries.now) _ c.meets_conditions.ensures c.loop-at.invariant

pub perform-requires-clause-call : goal.perform-requires-clause-call
perform-requires-clause-call c =
    may_on_line c.args.plan.now (take c.loop-at.at c.args.entries.now) c.loop-at.line _ _ c.loop-at.invariant
    (follows_next c.args.plan.now c.args.entries.now c.loop-at.at _ c.requires.legal c.requires.few
    (omega (arith, c.loop-at-test.true, c.requires.within))).call

pub loop-at-preserved : goal.loop-at-preserved
loop-at-preserved c =
    kept_more c.args.plan.now c.args.entries.now c.loop-at.at _ c.loop-at.line _ _ c.requires.legal c.requires.few
    (omega (arith, c.loop-at-test.true, c.requires.within)) c.loop-at.invariant c.perform.ensures.told
    c.perform.ensures.calls
