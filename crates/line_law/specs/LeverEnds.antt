-- At which end each lever of a box stands, and whether its arm is off.
use Rattle.std.specs.Prelude.{ℕ, ◌-◌, List, [], ◌∷◌, Option, Some, None, Bool, true, false, if◌then◌else◌}
use Rattle.std.specs.Prelude.{slice_index_or}
use Rattle.locking_table.specs.Places.{end_at}
use Rattle.locking_table.specs.declared.places.End.{End}
use Rattle.locking_table.specs.declared.places.End.TheVariants as ends

-- an end is the reversed one
abbrev pub is_reversed_end : End → Bool
is_reversed_end ends.Normal = false
is_reversed_end ends.Reversed = true

-- a lever is reversed
abbrev pub is_pulled : List End → ℕ → Bool
is_pulled ends lever = is_reversed_end (end_at ends lever)

-- the first of these levers that is reversed
abbrev pub first_reversed : List End → List ℕ → Option ℕ
first_reversed ends [] = None
first_reversed ends (lever ∷ levers) = if is_pulled ends lever then Some lever else first_reversed ends levers

-- a lever's arm is off
abbrev pub is_off : List Bool → ℕ → Bool
is_off off lever = slice_index_or off (lever - 1) false
