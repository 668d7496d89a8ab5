use Rattle.std.proofs.Common.{◌≡◌, ◌++◌, drop, string_bytes}
use Rattle.std.specs.List.{flat_map}
use Rattle.sheet_text.specs.Cells.{cell_text}
use Rattle.sheet_text.proofs.cells.put_cells.Given as goal

abbrev pub invariant-loop-cell : goal.invariant-loop-cell
invariant-loop-cell l =
    string_bytes l.out ++ flat_map (cell_text l.plan l.entries) (drop l.cell-index l.cells)
    ≡ string_bytes l.fn.out ++ flat_map (cell_text l.plan l.entries) l.cells
