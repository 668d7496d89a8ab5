-- The lines of a sheet, and their columns.
use Rattle.std.specs.Prelude.{ℕ, Bool, ◌&&◌, List, [], ◌∷◌, Option, Some, None, is_none, length, nat_lt}
use Rattle.std.specs.Prelude.{slice_index_or, slice_set, if◌then◌else◌}
use Rattle.block_words.specs.declared.Way.{Way}
use Rattle.block_words.specs.declared.Way.TheVariants.{Down}
use Rattle.register_sheet.specs.declared.sheet.Line.{Line}
use Rattle.register_sheet.specs.declared.spot.Column.{Column}
use Rattle.register_sheet.specs.Columns.{column_no}

-- no entry stands in a column
abbrev pub no_cells : List (Option ℕ)
no_cells = None ∷ None ∷ None ∷ None ∷ None ∷ None ∷ None ∷ None ∷ None ∷ None ∷ []

-- a line that an entry opens
abbrev pub new_line : Way → ℕ → Column → ℕ → Line
new_line way code column entry =
    record { way = way; code = code; cells = slice_set no_cells (column_no column) (Some entry) }

-- the entry that stands in a column; a column off the line has one
abbrev pub cell_of : Column → Line → Option ℕ
cell_of column line = slice_index_or line.cells (column_no column) (Some 0)

-- no entry stands in a column
abbrev pub is_blank : Column → Line → Bool
is_blank column line = is_none (cell_of column line)

-- an entry in a column
abbrev pub filled : Column → ℕ → Line → Line
filled column entry line = record line { cells = slice_set line.cells (column_no column) (Some entry) }

-- a line that isn't there
abbrev pub no_line : Line
no_line = record { way = Down; code = 0; cells = [] }

-- the line of this number
abbrev pub line_at : List Line → ℕ → Line
line_at lines line = slice_index_or lines line no_line

-- there is such a line, and no entry stands in that column of it
abbrev pub is_free : List Line → ℕ → Column → Bool
is_free lines line column = nat_lt line (length lines) && is_blank column (line_at lines line)

-- an entry in a column of a line, where that is free
abbrev pub filled_at : ℕ → Column → ℕ → List Line → List Line
filled_at line column entry lines =
    if is_free lines line column then slice_set lines line (filled column entry (line_at lines line)) else lines
