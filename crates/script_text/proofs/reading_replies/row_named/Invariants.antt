use Rattle.std.proofs.Common.{◌≡◌, drop, map}
use Rattle.script_text.specs.Names.{row_named}
use Rattle.script_text.proofs.reading_replies.row_named.Given as goal

abbrev pub invariant-loop-row : goal.invariant-loop-row
invariant-loop-row l =
    row_named (map (λ row. (row.0.now, row.1)) (drop l.row-index l.rows)) l.word
    ≡ row_named (map (λ row. (row.0.now, row.1)) l.rows) l.word
