-- The rows of a locking table are read.
use Rattle.std.specs.Prelude.{◌≡◌, ℕ, List, Ok}
use Rattle.locking_table.specs.declared.row.Row.{Row}
use Rattle.row_texts.specs.Printing.{row_lines}
use Rattle.row_texts.specs.Texts.{rows_of}

-- What comes of `rows` of a text: the rows that it spells, as lines of a plan.
pub record AreRowsOf (text lines : List ℕ) : Type 0 where
  pub rows : List Row
  pub read : rows_of text ≡ Ok rows
  pub lines_are : lines ≡ row_lines rows
