use Rattle.block_words.proofs.Lanes.{bit_or-lane_bits, lane-add_other, lane-add_same}
use Rattle.block_words.proofs.sections.entering_law.Goals as goal

pub returns-clause-word : goal.returns-clause-word
returns-clause-word c way w i train empty small = bit_or-lane_bits w i train small empty

pub returns-clause-filled : goal.returns-clause-filled
returns-clause-filled c way w i train empty small =
    rw (bit_or-lane_bits w i train small empty) (lane-add_same w i train empty small)

pub returns-clause-others : goal.returns-clause-others
returns-clause-others c way w i train empty small j apart =
    rw (bit_or-lane_bits w i train small empty) (lane-add_other w i j train apart empty small)
