-- Rows of a locking table that clash.
use Rattle.std.specs.Prelude.{◌≡◌, ℕ, List, length, Bool, true, false, ◌&&◌, ◌==◌}
use Rattle.locking_table.specs.Meaning.{RowHolds}
use Rattle.locking_table.specs.Places.{stand_of}
use Rattle.locking_table.specs.declared.places.End.{End}
use Rattle.locking_table.specs.declared.places.Stand.TheVariants.{AtMid}
use Rattle.locking_table.specs.declared.row.Row.{Row}
use Rattle.locking_table.specs.declared.row.RowKind.{RowKind}
use Rattle.locking_table.specs.declared.row.RowKind.TheVariants.{LocksNormal, ReleasedBy, LocksBoth}

-- two rows of one subject clash in a frame of so many levers: with the subject at mid, no ends of the other levers let
-- both hold
pub record Clash (levers : ℕ) (first second : Row) : Type 0 where
  pub subject : first.subject ≡ second.subject
  pub never : (ends : List End) → length ends ≡ levers
      → ¬ (RowHolds (stand_of ends first.subject AtMid) first × RowHolds (stand_of ends first.subject AtMid) second)

-- one kind wants its object normal, the other wants it reversed
abbrev pub opposed : RowKind → RowKind → Bool
opposed LocksNormal LocksNormal = false
opposed LocksNormal ReleasedBy = true
opposed LocksNormal LocksBoth = false
opposed ReleasedBy LocksNormal = true
opposed ReleasedBy ReleasedBy = false
opposed ReleasedBy LocksBoth = false
opposed LocksBoth LocksNormal = false
opposed LocksBoth ReleasedBy = false
opposed LocksBoth LocksBoth = false

-- The test of two rows: one subject, no conditions, and one object wanted at opposed ends. A row with a condition holds
-- where that lever is put to its other end.
abbrev pub do_clash : Row → Row → Bool
do_clash first second = first.subject == second.subject && length first.when == 0 && length second.when == 0
    && first.object == second.object && opposed first.kind second.kind
