use Rattle.typed_words.proofs.WrittenOut.{written_timed, written_untimed}
use Rattle.typed_words.proofs.laws.written_out_law.Goals as goal

pub returns-clause-timed : goal.returns-clause-timed
returns-clause-timed c = written_timed

pub returns-clause-untimed : goal.returns-clause-untimed
returns-clause-untimed c = written_untimed
