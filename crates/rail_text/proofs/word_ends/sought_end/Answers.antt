use Rattle.std.proofs.Common.{arith}
use Rattle.rail_text.proofs.WordEnds.{cut_other, cut_space, ends_never}
use Rattle.rail_text.proofs.word_ends.sought_end.Goals as goal
use Rattle.rail_text.proofs.word_ends.sought_end.Goals.{then-b-eq32+else-spaces-word, else-b-eq32}

pub loop-at-preserved : goal.loop-at-preserved
loop-at-preserved c = elim c.if-b-eq32.branch [
  | then-b-eq32+else-spaces-word w ↦ rw w.spaces-is (record {
    before = omega (arith, c.loop-at.invariant.before, w.if-spaces-word.false);
    cut = cut_space c.args.text.now c.loop-at.at c.loop-at.spaces c.loop-at-test.true w.if-b-eq32.true
        c.loop-at.invariant.cut;
  })
  | else-b-eq32 w ↦ rw w.spaces-is (record {
    before = c.loop-at.invariant.before;
    cut = cut_other c.args.text.now c.loop-at.at c.loop-at.spaces c.loop-at-test.true w.if-b-eq32.false
        c.loop-at.invariant.cut;
  })
]

pub returns : goal.returns
returns c =
    ends_never c.args.text.now c.loop-at.at c.loop-at.spaces c.args.word c.loop-at-test.false c.loop-at.auto.at-end
    c.loop-at.invariant.before c.loop-at.invariant.cut
