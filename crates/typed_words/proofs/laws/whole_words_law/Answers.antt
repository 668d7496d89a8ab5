use Rattle.typed_words.proofs.WrittenOut.{whole_words}
use Rattle.typed_words.proofs.laws.whole_words_law.Goals as goal

pub returns : goal.returns
returns c = whole_words
