-- A row stands in one of the three columns, once.
use Rattle.std.proofs.Common.{◌≡◌, ℕ, List, [], ◌++◌, refl}
use Rattle.std.specs.Prelude.{if◌then◌else◌}
use Rattle.std.proofs.lemmas.List.{append-nil}
use Rattle.locking_table.specs.declared.row.Row.{Row}
use Rattle.locking_table.specs.declared.row.RowKind.{RowKind}
use Rattle.locking_table.specs.declared.row.RowKind.TheVariants.{LocksNormal, ReleasedBy, LocksBoth}
use Rattle.locking_page.specs.Cells.{is_in, own_text}
use Rattle.locking_page.specs.Laws.{StandsInOneColumn}

in_one : (kind : RowKind) (text : List ℕ)
    → (if is_in kind ReleasedBy then text else []) ++ (if is_in kind LocksNormal then text else [])
    ++ (if is_in kind LocksBoth then text else []) ≡ text
in_one LocksNormal text = append-nil text
in_one ReleasedBy text = simp append-nil
in_one LocksBoth text = refl

pub one_column : (number : ℕ) (row : Row) → StandsInOneColumn number row
one_column number row = in_one row.kind (own_text number row)
