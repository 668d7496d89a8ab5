-- What becomes of a lever that is to be moved.
use Rattle.std.specs.Prelude.{ℕ, ◌+◌, ◌-◌, List, [], ◌∷◌, Option, Some, None, if◌then◌else◌, slice_set}
use Rattle.locking_table.specs.declared.places.End.{End}
use Rattle.locking_table.specs.declared.places.Stand.TheVariants.{AtMid}
use Rattle.locking_table.specs.declared.row.Holder.{Holder}
use Rattle.locking_table.specs.Places.{LeverPlace, end_at, other_end, stand_of}
use Rattle.bridle_frame.specs.declared.bridle.Bridle.{Bridle}
use Rattle.bridle_frame.specs.declared.frame.Shift.{Shift}
use Rattle.bridle_frame.specs.declared.frame.Shift.TheVariants.{Shifted, HeldBy}
use Rattle.bridle_frame.specs.Seated.{holding_lever_in, seated}

-- the first bridle that isn't seated, its number counted on from a number
abbrev pub first_unseated : LeverPlace → ℕ → List Bridle → Option ℕ
first_unseated places from [] = None
first_unseated places from (bridle ∷ bridles) =
    if seated places bridle then first_unseated places (from + 1) bridles else Some from

abbrev pub reply_of : Option ℕ → Shift
reply_of None = Shifted
reply_of (Some bridle) = HeldBy bridle

-- a lever is held by the first bridle, numbered from 1, that isn't seated with it at mid
abbrev pub shift_of : List End → ℕ → List Bridle → Shift
shift_of ends lever bridles = reply_of (first_unseated (stand_of ends lever AtMid) 1 bridles)

-- the ends once a lever was moved to its other end, or held
abbrev pub ends_after : List End → ℕ → Shift → List End
ends_after ends lever Shifted = slice_set ends (lever - 1) (other_end (end_at ends lever))
ends_after ends lever (HeldBy bridle) = ends

-- what holds a lever: the row of the first bridle that isn't seated, with the lever that it names
abbrev pub first_holder : LeverPlace → ℕ → List Bridle → Option Holder
first_holder places lever [] = None
first_holder places lever (bridle ∷ bridles) =
    if seated places bridle then first_holder places lever bridles
    else Some (record { lever = holding_lever_in bridle.dogs lever; row = bridle.row })
