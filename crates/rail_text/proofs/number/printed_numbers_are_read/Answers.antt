use Rattle.rail_text.proofs.NumberLemmas.{IsPrinted-number_of}
use Rattle.rail_text.proofs.number.printed_numbers_are_read.Goals as goal

pub returns-clause-printed : goal.returns-clause-printed
returns-clause-printed c = IsPrinted-number_of
