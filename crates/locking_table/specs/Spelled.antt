-- The conditions of a row as they are kept, and what is wrong with a row's text.
use Rattle.std.specs.Prelude.{List, []}
use Rattle.locking_table.specs.declared.conds.Kept.{Kept}
use Rattle.locking_table.specs.declared.conds.Kept.TheVariants as kept
use Rattle.locking_table.specs.declared.fault.RowError.{RowError}
use Rattle.locking_table.specs.declared.fault.RowError.TheVariants as errors
use Rattle.locking_table.specs.declared.fault.RowFault.{RowFault}
use Rattle.locking_table.specs.declared.fault.RowFault.TheVariants as faults
use Rattle.locking_table.specs.declared.row.Cond.{Cond}

-- the conditions, in the order of the text
abbrev pub conds_kept : Kept → List Cond
conds_kept kept.None = []
conds_kept (kept.One conds) = conds
conds_kept (kept.Both conds) = conds

-- what is wrong with a text, as the reader tells it
abbrev pub as_error : RowFault → RowError
as_error (faults.BadRow word) = errors.BadRow word
as_error faults.SameLever = errors.SameLever
