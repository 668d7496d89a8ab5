-- What holds of the columns of every page.
use Rattle.std.specs.Prelude.{◌≡◌, ℕ, ◌++◌}
use Rattle.locking_table.specs.declared.row.Row.{Row}
use Rattle.locking_table.specs.declared.row.RowKind.TheVariants.{LocksNormal, ReleasedBy, LocksBoth}
use Rattle.locking_page.specs.Cells.{own_in, own_text}

-- a row stands in one of the three columns, once
abbrev pub StandsInOneColumn : ℕ → Row → Type 0
StandsInOneColumn number row =
    own_in ReleasedBy number row ++ own_in LocksNormal number row ++ own_in LocksBoth number row ≡ own_text number row
