use Rattle.block_words.proofs.Lanes.{lane-lanes_word, lanes_word-filled, lanes_word-lane}
use Rattle.block_words.proofs.sections.lanes_law.Goals as goal

pub returns-clause-word : goal.returns-clause-word
returns-clause-word c = lanes_word-lane

pub returns-clause-lanes : goal.returns-clause-lanes
returns-clause-lanes c = lane-lanes_word

pub returns-clause-filled : goal.returns-clause-filled
returns-clause-filled c = lanes_word-filled
