use Rattle.std.proofs.Common.{◌≡◌, drop}
use Rattle.row_texts.specs.Marks.{rows_onto}
use Rattle.row_texts.proofs.marks.put_rows.Given as goal

abbrev pub invariant-loop-lever : goal.invariant-loop-lever
invariant-loop-lever l = rows_onto l.head l.when l.entries.items (drop l.lever-index l.levers)
    ≡ rows_onto l.head l.when l.fn.entries.items l.levers
