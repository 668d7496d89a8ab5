-- What a row of a locking table means, which lever may move, and what holds it.
use Rattle.std.specs.Prelude.{◌≡◌, ℕ, ◌+◌, List, [], ◌∷◌, ◌++◌, Option, Some, None, Bool, not, ◌&&◌, ◌==◌}
use Rattle.std.specs.Prelude.{if◌then◌else◌, IsTrue, All, length}
use Rattle.std.specs.List.{list_all}
use Rattle.locking_table.specs.declared.places.End.{End}
use Rattle.locking_table.specs.declared.places.End.TheVariants.{Normal, Reversed}
use Rattle.locking_table.specs.declared.places.Stand.{Stand}
use Rattle.locking_table.specs.declared.places.Stand.TheVariants.{AtMid}
use Rattle.locking_table.specs.declared.row.RowKind.{RowKind}
use Rattle.locking_table.specs.declared.row.RowKind.TheVariants.{LocksNormal, ReleasedBy, LocksBoth}
use Rattle.locking_table.specs.declared.row.Cond.{Cond}
use Rattle.locking_table.specs.declared.row.Row.{Row}
use Rattle.locking_table.specs.declared.row.Holder.{Holder}
use Rattle.locking_table.specs.Places.{LeverPlace, is_normal, is_mid, is_reversed, other_end, end_at, stand_at}
use Rattle.locking_table.specs.Places.{stand_of}

-- a condition "C reversed" acts where C isn't normal, and "C normal" where C isn't reversed
abbrev pub acts_at : End → Stand → Bool
acts_at Reversed stand = not (is_normal stand)
acts_at Normal stand = not (is_reversed stand)

abbrev pub acts : LeverPlace → Cond → Bool
acts places cond = acts_at cond.end (places cond.lever)

-- an object that stands so breaks the kind
abbrev pub breaks : RowKind → Stand → Bool
breaks LocksNormal stand = not (is_normal stand)
breaks ReleasedBy stand = not (is_reversed stand)
breaks LocksBoth stand = is_mid stand

-- a row holds unless its subject isn't normal, all its conditions act, and the object breaks its kind
abbrev pub row_holds : LeverPlace → Row → Bool
row_holds places row = not
    (not (is_normal (places row.subject)) && list_all (acts places) row.when && breaks row.kind (places row.object))

abbrev pub RowHolds : LeverPlace → Row → Type 0
RowHolds places row = IsTrue (row_holds places row)

-- the places with the lever at its new end
abbrev pub moved_from : List End → ℕ → LeverPlace
moved_from ends lever = stand_of ends lever (stand_at (other_end (end_at ends lever)))

-- a lever may move to its other end where every row holds with it at mid, and every row holds with it at its new end
pub record MayMove (ends : List End) (lever : ℕ) (rows : List Row) : Type 0 where
  pub mid : All (RowHolds (stand_of ends lever AtMid)) rows
  pub new : All (RowHolds (moved_from ends lever)) rows

-- the row holds in both
abbrev pub row_allows : List End → ℕ → Row → Bool
row_allows ends lever row = row_holds (stand_of ends lever AtMid) row && row_holds (moved_from ends lever) row

-- the lever that a row names as holding another: its object where the other is its subject, else its subject
abbrev pub holding_lever : Row → ℕ → ℕ
holding_lever row moved = if row.subject == moved then row.object else row.subject

-- the first row that fails in one of the two, its number counted on from a number, with the lever that it names
abbrev pub first_holder : List End → ℕ → ℕ → List Row → Option Holder
first_holder ends lever from [] = None
first_holder ends lever from (row ∷ rows) =
    if row_allows ends lever row then first_holder ends lever (from + 1) rows
    else Some (record { lever = holding_lever row lever; row = from })

-- what holds a lever: rows are numbered from 1
abbrev pub holder_of : List End → ℕ → List Row → Option Holder
holder_of ends lever rows = first_holder ends lever 1 rows

-- the row that a holder names is the first in table order that fails in one of the two, and the holder's lever is the
-- one that it names
pub record IsFirstToFail (ends : List End) (lever : ℕ) (rows : List Row) (holder : Holder) : Type 0 where
  pub front : List Row
  pub row : Row
  pub back : List Row
  pub split : rows ≡ front ++ row ∷ back
  pub number : holder.row ≡ length front + 1
  pub free : MayMove ends lever front
  pub fails : ¬ (RowHolds (stand_of ends lever AtMid) row × RowHolds (moved_from ends lever) row)
  pub names : holder.lever ≡ holding_lever row lever
