use Rattle.rail_text.proofs.Cuts.{other_more}
use Rattle.rail_text.proofs.word_ends.cut_bytes.Goals as goal
use Rattle.rail_text.proofs.word_ends.cut_bytes.Goals.{then-text-at-eq32, else-text-at-eq32}

pub loop-at-preserved : goal.loop-at-preserved
loop-at-preserved c = elim c.if-text-at-eq32.branch [
  | then-text-at-eq32 w ↦ rw (w.ends-is, w.cutting-is) (w.space.ensures c.args.text.now c.loop-at-test.true
      w.if-text-at-eq32.true c.loop-at.invariant)
  | else-text-at-eq32 w ↦ rw (w.ends-is, w.cutting-is) (other_more c.args.text.now c.loop-at.ends c.loop-at.at
      c.loop-at.cutting.spaces c.loop-at.cutting.start c.loop-at.cutting.gap c.loop-at-test.true
      w.if-text-at-eq32.false c.loop-at.invariant)
]
