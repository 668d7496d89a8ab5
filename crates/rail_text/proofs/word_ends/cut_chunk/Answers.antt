use Rattle.std.proofs.Common.{ℕ, ◌+◌, ap, arith, ◌∙◌}
use Rattle.std.specs.Int.{bit_at}
use Rattle.std.proofs.lemmas.Nat.Bits.{bit_at-zero}
use Rattle.rail_text.proofs.Cuts.{all_bits, bits_behind, next_space, no_space, space_within}
use Rattle.rail_text.proofs.word_ends.cut_chunk.Goals as goal

pub loop-left-init : goal.loop-left-init
loop-left-init c = record {
  at = c.args.from;
  low = omega arith;
  high = omega (arith, c.requires.within);
  cut = c.requires.cut;
  bits = all_bits c.args.text.now c.args.from c.spaces_in-left.result c.spaces_in-left.ensures;
}

pub loop-left-preserved : goal.loop-left-preserved
loop-left-preserved c =
    let was = c.loop-left.invariant in
    let on = was.bits.set c.lowest-place.result c.lowest-place.ensures.set in
    let within = space_within c.args.text.now (c.args.from + c.lowest-place.result) on.2 in
    record {
      at = c.args.from + c.lowest-place.result + 1;
      low = omega arith;
      high = omega (arith, on.0, within);
      cut = c.space.ensures c.args.text.now within on.2
          (next_space c.args.text.now c.loop-left.ends c.args.from was.at c.loop-left.left c.lowest-place.result
          c.loop-left.cutting.spaces c.loop-left.cutting.start c.loop-left.cutting.gap was.low was.bits
          c.lowest-place.ensures.set c.lowest-place.ensures.below was.cut);
      bits = bits_behind c.args.text.now c.args.from was.at c.loop-left.left c.lowest-place.result
          c.without-left.result was.low was.bits c.lowest-place.ensures.set c.lowest-place.ensures.below
          c.without-left.ensures.kept c.without-left.ensures.no_more c.without-left.ensures.gone;
    }

pub returns : goal.returns
returns c =
    let was = c.loop-left.invariant in
    no_space c.args.text.now c.loop-left.ends c.args.from was.at c.loop-left.left c.loop-left.cutting.spaces
    c.loop-left.cutting.start c.loop-left.cutting.gap was.low was.high was.bits
    (λ k. ap (λ (bits : ℕ). bit_at bits k) c.loop-left-test.false ∙ bit_at-zero k) was.cut
