use Rattle.word_laws.proofs.OperationLaws.{call_follows}
use Rattle.word_laws.proofs.words.operation_law.Goals as goal

pub returns : goal.returns
returns c = call_follows
