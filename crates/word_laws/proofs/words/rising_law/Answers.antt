use Rattle.word_laws.proofs.Rises.{call_never_falls, never_falls}
use Rattle.word_laws.proofs.words.rising_law.Goals as goal

pub returns-clause-call : goal.returns-clause-call
returns-clause-call c = call_never_falls

pub returns-clause-history : goal.returns-clause-history
returns-clause-history c = never_falls
