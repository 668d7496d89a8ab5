-- Where levers stand.
use Rattle.std.specs.Prelude.{ℕ, ◌-◌, ◌≤◌, List, Bool, true, false, ◌==◌, if◌then◌else◌, slice_index_or}
use Rattle.locking_table.specs.declared.places.End.{End}
use Rattle.locking_table.specs.declared.places.End.TheVariants.{Normal, Reversed}
use Rattle.locking_table.specs.declared.places.Stand.{Stand}
use Rattle.locking_table.specs.declared.places.Stand.TheVariants.{AtNormal, AtMid, AtReversed}

-- the most levers of a frame
abbrev pub most_levers : ℕ
most_levers = 120

-- a frame of so many levers has this one
abbrev pub IsLever : ℕ → ℕ → Type 0
IsLever levers lever = (1 ≤ lever) × (lever ≤ levers)

abbrev pub is_normal : Stand → Bool
is_normal AtNormal = true
is_normal AtMid = false
is_normal AtReversed = false

abbrev pub is_mid : Stand → Bool
is_mid AtNormal = false
is_mid AtMid = true
is_mid AtReversed = false

abbrev pub is_reversed : Stand → Bool
is_reversed AtNormal = false
is_reversed AtMid = false
is_reversed AtReversed = true

-- the place of each lever: a state of a frame
abbrev pub LeverPlace : Type 0
LeverPlace = ℕ → Stand

abbrev pub stand_at : End → Stand
stand_at Normal = AtNormal
stand_at Reversed = AtReversed

-- the end to which a lever moves
abbrev pub other_end : End → End
other_end Normal = Reversed
other_end Reversed = Normal

-- the end of a lever, where the list has the end of lever 1 first
abbrev pub end_at : List End → ℕ → End
end_at ends lever = slice_index_or ends (lever - 1) Normal

-- the places between two moves: every lever stands at an end
abbrev pub at_ends : List End → LeverPlace
at_ends ends lever = stand_at (end_at ends lever)

-- the places with one lever brought to a place, and all others as they stand
abbrev pub stand_of : List End → ℕ → Stand → LeverPlace
stand_of ends moved place lever = if lever == moved then place else at_ends ends lever
