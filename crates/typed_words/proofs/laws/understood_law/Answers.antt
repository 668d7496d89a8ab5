use Rattle.typed_words.proofs.Understood.{understood_is}
use Rattle.typed_words.proofs.laws.understood_law.Goals as goal

pub returns : goal.returns
returns c = understood_is
