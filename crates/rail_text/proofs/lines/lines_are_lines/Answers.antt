use Rattle.rail_text.proofs.PrintedLines.{lines_are}
use Rattle.rail_text.proofs.lines.lines_are_lines.Goals as goal

pub returns-clause-are : goal.returns-clause-are
returns-clause-are c = lines_are
