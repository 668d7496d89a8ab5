use Rattle.std.proofs.Common.{length, ◌∙◌, ap}
use Rattle.bridle_frame.proofs.Indexes.{length-used_by, used_by_all-step}
use Rattle.bridle_frame.proofs.index.index_of.Goals as goal

pub loop-i-preserved : goal.loop-i-preserved
loop-i-preserved c =
    let wide = length-used_by c.loop-i.uses.items c.args.end c.loop-i.i c.as_slice.result.now in
    record {
      wide = ap length c.in_ok-add_uses.ensures ∙ (wide ∙ c.loop-i.invariant.wide);
      same = used_by_all-step c.loop-i.uses.items c.add_uses.new.uses.items c.args.end c.loop-i.i c.args.bridles.now
          c.index-bridles-i.result c.as_slice.result.now c.loop-i-test.true c.index-bridles-i.is c.as_slice.ensures
          c.in_ok-add_uses.ensures
          ∙ c.loop-i.invariant.same;
    }
