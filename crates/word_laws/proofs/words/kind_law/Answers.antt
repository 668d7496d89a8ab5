use Rattle.word_laws.proofs.TellsKind.{decision_tells, kind_is_told, told_in_pair}
use Rattle.word_laws.proofs.words.kind_law.Goals as goal

pub returns-clause-told : goal.returns-clause-told
returns-clause-told c = kind_is_told

pub returns-clause-decided : goal.returns-clause-decided
returns-clause-decided c =
    λ plan box_plan act here way pair. told_in_pair _ way pair (decision_tells plan box_plan act here)
