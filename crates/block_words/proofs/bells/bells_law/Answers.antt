use Rattle.block_words.proofs.Marks.{bit_and-COUNT_MASK}
use Rattle.block_words.proofs.Packing.{bell_code-bell_word, bell_count-bell_word}
use Rattle.block_words.proofs.bells.bells_law.Goals as goal

pub returns-clause-count : goal.returns-clause-count
returns-clause-count c = bell_count-bell_word

pub returns-clause-unheard : goal.returns-clause-unheard
returns-clause-unheard c = bell_code-bell_word

pub returns-clause-heard : goal.returns-clause-heard
returns-clause-heard c side w fits = bit_and-COUNT_MASK w fits
