use Rattle.word_laws.proofs.RingLaws.{all_counted, all_heard, count_is_told}
use Rattle.word_laws.proofs.bells.bell_law.Goals as goal

pub returns-clause-heard : goal.returns-clause-heard
returns-clause-heard c = all_heard

pub returns-clause-counted : goal.returns-clause-counted
returns-clause-counted c = all_counted

pub returns-clause-told : goal.returns-clause-told
returns-clause-told c = count_is_told
