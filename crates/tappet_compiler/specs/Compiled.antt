-- The bridle of a row, and the bridles of a table.
use Rattle.std.specs.Prelude.{ℕ, ◌+◌, List, [], ◌∷◌, map}
use Rattle.locking_table.specs.declared.places.End.{End}
use Rattle.locking_table.specs.declared.places.End.TheVariants.{Normal as NormalEnd, Reversed as ReversedEnd}
use Rattle.locking_table.specs.declared.row.RowKind.{RowKind}
use Rattle.locking_table.specs.declared.row.RowKind.TheVariants.{LocksNormal, ReleasedBy, LocksBoth}
use Rattle.locking_table.specs.declared.row.Cond.{Cond}
use Rattle.locking_table.specs.declared.row.Row.{Row}
use Rattle.bridle_frame.specs.declared.bridle.Notches.{Notches}
use Rattle.bridle_frame.specs.declared.bridle.Notches.TheVariants.{Normal, Reversed, Both}
use Rattle.bridle_frame.specs.declared.bridle.Dog.{Dog}
use Rattle.bridle_frame.specs.declared.bridle.Bridle.{Bridle}

-- the object's dog has its notch at normal, reversed or both, by the kind of the row
abbrev pub object_notches : RowKind → Notches
object_notches LocksNormal = Normal
object_notches ReleasedBy = Reversed
object_notches LocksBoth = Both

-- a condition "C reversed" gives C a dog with its notch at normal, and "C normal" one with its notch at reversed
abbrev pub cond_notches : End → Notches
cond_notches ReversedEnd = Normal
cond_notches NormalEnd = Reversed

abbrev pub cond_dog : Cond → Dog
cond_dog cond = record { lever = cond.lever; notches = cond_notches cond.end }

-- the subject has a dog with its notch at normal
abbrev pub bridle_of : Row → ℕ → Bridle
bridle_of row number =
    record {
      dogs = record { lever = row.subject; notches = Normal }
          ∷ record { lever = row.object; notches = object_notches row.kind } ∷ map cond_dog row.when;
      row = number;
    }

-- one bridle for each row in row order, the rows numbered from a number on
abbrev pub compiled : ℕ → List Row → List Bridle
compiled from [] = []
compiled from (row ∷ rows) = bridle_of row from ∷ compiled (from + 1) rows
