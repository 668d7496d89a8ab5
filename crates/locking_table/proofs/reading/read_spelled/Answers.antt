use Rattle.std.proofs.Common.{◌∙◌, sym}
use Rattle.locking_table.proofs.Spelling.{grammar_row, grammar_text}
use Rattle.locking_table.proofs.reading.read_spelled.Goals as goal

pub returns-then-levers_differ-clause-row : goal.returns-then-levers_differ-clause-row
returns-then-levers_differ-clause-row c =
    let differ = sym c.levers_differ.ensures ∙ c.if-levers_differ.true in
    grammar_row c.args.text.now c.in_ok-row.row c.in_ok-row.ensures differ

pub returns-then-levers_differ-clause-spelled : goal.returns-then-levers_differ-clause-spelled
returns-then-levers_differ-clause-spelled c =
    grammar_text c.args.text.now c.in_ok-row.row c.in_ok-row.ensures
