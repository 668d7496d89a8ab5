use Rattle.std.proofs.lemmas.List.Elements.{All-weaker}
use Rattle.locking_table.specs.Places.{most_levers}
use Rattle.locking_table.specs.Sound.{IsRow, RowFits}
use Rattle.frame_chart.proofs.printing.table_fits.Goals as goal

pub returns : goal.returns
returns c = All-weaker IsRow (RowFits most_levers) (λ row h. h.levers) c.args.table.now c.rows-rows.ensures.each
