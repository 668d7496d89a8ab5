use Rattle.block_words.proofs.Marks.{bit_or-block_word}
use Rattle.block_words.proofs.Packing.{block_position-block_word, block_spent-block_word, block_turns-block_word}
use Rattle.block_words.proofs.Packing.{block_word-unpacked}
use Rattle.block_words.proofs.instruments.instruments_law.Goals as goal

pub returns-clause-turns : goal.returns-clause-turns
returns-clause-turns c = block_turns-block_word

pub returns-clause-pulled : goal.returns-clause-pulled
returns-clause-pulled c = block_spent-block_word

pub returns-clause-shown : goal.returns-clause-shown
returns-clause-shown c = block_position-block_word

pub returns-clause-packed : goal.returns-clause-packed
returns-clause-packed c = block_word-unpacked

pub returns-clause-spent : goal.returns-clause-spent
returns-clause-spent c way v spent position = bit_or-block_word v spent position
