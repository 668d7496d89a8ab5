use Rattle.std.proofs.Common.{rules}
use Rattle.line_watch.proofs.Lines.{all_sights, more_sights}
use Rattle.line_watch.proofs.printing.put_round.Goals as goal

pub loop-place-preserved : goal.loop-place-preserved
loop-place-preserved c =
    more_sights c.args.plan.now c.args.number c.len-boxes.result c.loop-place.place c.args.sights.now
    c.section_numbered.result _ _ _ _ (search rules) c.requires c.loop-place-test.true c.section_numbered.ensures.listed
    c.loop-place.invariant c.in_ok-put_sight.ensures

pub returns : goal.returns
returns c =
    all_sights c.args.plan.now c.args.number c.loop-place.place c.args.sights.now _ _ c.requires
    c.loop-place-test.false c.loop-place.invariant
