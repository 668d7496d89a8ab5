-- The rows of which bridles are made.
use Rattle.std.specs.Prelude.{List, [], ◌∷◌, map}
use Rattle.locking_table.specs.declared.places.End.{End}
use Rattle.locking_table.specs.declared.places.End.TheVariants.{Normal as NormalEnd, Reversed as ReversedEnd}
use Rattle.locking_table.specs.declared.row.RowKind.{RowKind}
use Rattle.locking_table.specs.declared.row.RowKind.TheVariants.{LocksNormal, ReleasedBy, LocksBoth}
use Rattle.locking_table.specs.declared.row.Cond.{Cond}
use Rattle.locking_table.specs.declared.row.Row.{Row}
use Rattle.bridle_frame.specs.declared.bridle.Notches.{Notches}
use Rattle.bridle_frame.specs.declared.bridle.Notches.TheVariants.{Normal, Reversed, Both}
use Rattle.bridle_frame.specs.declared.bridle.Dog.{Dog}
use Rattle.bridle_frame.specs.declared.bridle.Bridle.{Bridle}

-- the kind of the row whose object has a dog with these notches
abbrev pub kind_by : Notches → RowKind
kind_by Normal = LocksNormal
kind_by Reversed = ReleasedBy
kind_by Both = LocksBoth

-- the end of the condition whose lever has a dog with these notches; no condition has both
abbrev pub end_by : Notches → End
end_by Normal = ReversedEnd
end_by Reversed = NormalEnd
end_by Both = NormalEnd

abbrev pub cond_by : Dog → Cond
cond_by dog = record { lever = dog.lever; end = end_by dog.notches }

-- no bridle has fewer than two dogs
abbrev pub no_row : Row
no_row = record { subject = 0; kind = LocksNormal; object = 0; when = [] }

-- the first dog is of the subject, the second of the object, the others of the conditions
abbrev pub row_by : List Dog → Row
row_by [] = no_row
row_by (subject ∷ []) = no_row
row_by (subject ∷ object ∷ conds) =
    record {
      subject = subject.lever;
      kind = kind_by object.notches;
      object = object.lever;
      when = map cond_by conds;
    }

-- one row for each bridle, in order
abbrev pub rows_of : List Bridle → List Row
rows_of bridles = map (λ bridle. row_by bridle.dogs) bridles
