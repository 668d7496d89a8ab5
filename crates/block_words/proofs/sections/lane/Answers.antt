use Rattle.block_words.proofs.Lanes.{bit_and-lane_mask}
use Rattle.block_words.proofs.sections.lane.Goals as goal

pub returns-clause-packed : goal.returns-clause-packed
returns-clause-packed c = rw c.lane_unit.ensures.unit (bit_and-lane_mask c.args.w c.args.i c.ranges.w.fits)
