use Rattle.block_words.proofs.Lanes.{bit_and-lane_mask, lane-bit_and_same, lane-bit_and_other}
use Rattle.block_words.proofs.sections.taking_out_law.Goals as goal

pub returns-clause-word : goal.returns-clause-word
returns-clause-word c way w i fits = bit_and-lane_mask w i fits

pub returns-clause-emptied : goal.returns-clause-emptied
returns-clause-emptied c way w i fits = lane-bit_and_same w i fits

pub returns-clause-others : goal.returns-clause-others
returns-clause-others c way w i fits j apart = lane-bit_and_other w i j fits apart
