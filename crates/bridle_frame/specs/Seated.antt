-- Where a bridle is seated.
use Rattle.std.specs.Prelude.{ℕ, ◌≤◌, length, List, [], ◌∷◌, Bool, true, not, ◌&&◌, ◌||◌, ◌==◌, if◌then◌else◌, IsTrue}
use Rattle.std.specs.Prelude.{All, filter, map, slice_index_or}
use Rattle.std.specs.List.{list_any}
use Rattle.locking_table.specs.declared.places.Stand.{Stand}
use Rattle.locking_table.specs.declared.places.Stand.TheVariants.{AtNormal}
use Rattle.locking_table.specs.Places.{IsLever, LeverPlace, is_normal, is_reversed}
use Rattle.locking_table.specs.Sound.{all_differ}
use Rattle.bridle_frame.specs.declared.bridle.Notches.{Notches}
use Rattle.bridle_frame.specs.declared.bridle.Notches.TheVariants.{Normal, Reversed, Both}
use Rattle.bridle_frame.specs.declared.bridle.Dog.{Dog}
use Rattle.bridle_frame.specs.declared.bridle.Bridle.{Bridle}

-- there is a notch where a lever stands so; at mid there is none
abbrev pub has_notch : Notches → Stand → Bool
has_notch Normal stand = is_normal stand
has_notch Reversed stand = is_reversed stand
has_notch Both stand = is_normal stand || is_reversed stand

-- the dog's lever stands at a notch of the dog
abbrev pub lies_in : LeverPlace → Dog → Bool
lies_in places dog = has_notch dog.notches (places dog.lever)

-- a bridle is seated where some dog's lever stands at a notch of that dog
abbrev pub seated : LeverPlace → Bridle → Bool
seated places bridle = list_any (lies_in places) bridle.dogs

abbrev pub IsSeated : LeverPlace → Bridle → Type 0
IsSeated places bridle = IsTrue (seated places bridle)

-- how many of these dogs lie in notches
abbrev pub lying_dogs : LeverPlace → List Dog → ℕ
lying_dogs places dogs = length (filter (lies_in places) dogs)

abbrev pub DogFits : ℕ → Dog → Type 0
DogFits levers dog = IsLever levers dog.lever

-- every lever at normal
abbrev pub all_normal : LeverPlace
all_normal lever = AtNormal

-- no two of the dogs are on one lever
abbrev pub dogs_differ : List Dog → Bool
dogs_differ [] = true
dogs_differ (dog ∷ dogs) = not (list_any (λ later. later.lever == dog.lever) dogs) && dogs_differ dogs

-- two to four dogs on different levers of a frame of so many levers
pub record BridleFits (levers : ℕ) (bridle : Bridle) : Type 0 where
  pub dogs : All (DogFits levers) bridle.dogs
  pub two : 2 ≤ length bridle.dogs
  pub four : length bridle.dogs ≤ 4
  pub differ : IsTrue (all_differ (map (λ dog. dog.lever) bridle.dogs))

abbrev pub no_dog : Dog
no_dog = record { lever = 0; notches = Normal }

-- the lever that holds another by a bridle with these dogs: the second dog's where the first is of the other, else the
-- first dog's
abbrev pub holding_lever_in : List Dog → ℕ → ℕ
holding_lever_in dogs moved =
    if (slice_index_or dogs 0 no_dog).lever == moved then (slice_index_or dogs 1 no_dog).lever
    else (slice_index_or dogs 0 no_dog).lever
