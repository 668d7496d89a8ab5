use Rattle.word_laws.proofs.NumberLaws.{number_tells}
use Rattle.word_laws.proofs.words.number_law.Goals as goal

pub returns : goal.returns
returns c = number_tells
