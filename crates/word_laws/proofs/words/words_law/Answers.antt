use Rattle.word_laws.proofs.WordHistory.{kind_of_entry, moves_word}
use Rattle.word_laws.proofs.words.words_law.Goals as goal

pub returns-clause-kind : goal.returns-clause-kind
returns-clause-kind c = kind_of_entry

pub returns-clause-moves : goal.returns-clause-moves
returns-clause-moves c = moves_word
