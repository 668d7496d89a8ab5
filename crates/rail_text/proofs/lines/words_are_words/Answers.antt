use Rattle.rail_text.proofs.PrintedLines.{words_are}
use Rattle.rail_text.proofs.lines.words_are_words.Goals as goal

pub returns-clause-are : goal.returns-clause-are
returns-clause-are c = words_are
