use Rattle.word_laws.proofs.TellsCount.{count_is_told}
use Rattle.word_laws.proofs.words.count_law.Goals as goal

pub returns : goal.returns
returns c = count_is_told
