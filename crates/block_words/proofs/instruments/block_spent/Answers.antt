use Rattle.std.proofs.Common.{arith}
use Rattle.std.proofs.lemmas.Bool.Decides.{nat_tests}
use Rattle.block_words.proofs.Marks.{bit_and-SPENT_BIT}
use Rattle.block_words.proofs.instruments.block_spent.Goals as goal

pub returns-clause-pulled : goal.returns-clause-pulled
returns-clause-pulled c = grind (arith, nat_tests, bit_and-SPENT_BIT c.args.w)

pub returns-clause-packed : goal.returns-clause-packed
returns-clause-packed c = grind (arith, nat_tests, bit_and-SPENT_BIT c.args.w)
