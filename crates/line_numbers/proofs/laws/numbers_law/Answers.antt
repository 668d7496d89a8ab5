use Rattle.line_numbers.proofs.CallsAgain.{numbers_again}
use Rattle.line_numbers.proofs.laws.numbers_law.Goals as goal

pub returns-clause-numbers : goal.returns-clause-numbers
returns-clause-numbers c = numbers_again
