use Rattle.std.proofs.Common.{◌∙◌, arith, sym}
use Rattle.rail_text.proofs.ChunkBits.{last_chunk, none_odd, some_odd}
use Rattle.rail_text.proofs.line_words.are_printable.Goals as goal

pub returns-then-odd_in-ne0 : goal.returns-then-odd_in-ne0
returns-then-odd_in-ne0 c =
    sym (some_odd c.args.text.now c.loop-at.at c.odd_in.result c.odd_in.ensures c.if-odd_in-ne0.true c.odd_in.type_inv
    (omega (arith, c.loop-at-test.true, c.loop-at.invariant.within)))

pub loop-at-preserved : goal.loop-at-preserved
loop-at-preserved c = record {
  within = omega (arith, c.loop-at-test.true, c.loop-at.invariant.within);
  rest =
      sym (none_odd c.args.text.now c.loop-at.at c.odd_in.result c.odd_in.ensures c.if-odd_in-ne0.false
      (omega (arith, c.loop-at-test.true, c.loop-at.invariant.within)))
      ∙ c.loop-at.invariant.rest;
}

pub returns : goal.returns
returns c =
    last_chunk c.args.text.now c.loop-at.at c.odd_in-2.result c.odd_in-2.ensures c.odd_in-2.type_inv
    c.if-text-lt-CHUNK.false c.loop-at.invariant.within c.loop-at-test.false c.loop-at.invariant.rest
