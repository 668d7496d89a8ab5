-- What a frame is, and what its type keeps.
use Rattle.std.specs.Prelude.{ℕ, ◌≡◌, ◌+◌, ◌-◌, ◌<◌, ◌^◌, ◌++◌, List, [], ◌∷◌, Bool, ◌==◌, ◌&&◌, if◌then◌else◌, All}
use Rattle.std.specs.Prelude.{length, map, min, slice_index_or, slice_set}
use Rattle.std.specs.List.{list_any}
use Rattle.locking_table.specs.declared.places.End.{End}
use Rattle.locking_table.specs.declared.places.End.TheVariants.{Normal as NormalEnd, Reversed as ReversedEnd}
use Rattle.locking_table.specs.Places.{LeverPlace, at_ends, stand_at}
use Rattle.bridle_frame.specs.declared.bridle.Dog.{Dog}
use Rattle.bridle_frame.specs.declared.bridle.Bridle.{Bridle}
use Rattle.bridle_frame.specs.declared.frame.Shift.{Shift}
use Rattle.bridle_frame.specs.declared.frame.Shift.TheVariants.{Shifted, HeldBy}
use Rattle.bridle_frame.specs.Seated.{BridleFits, IsSeated, has_notch, lying_dogs}

-- the ends of the levers, that of lever 1 first, and the bridles
pub record FrameState : Type 0 where
  pub ends : List End
  pub bridles : List Bridle

-- the dog lies in a notch of the lever where it stands at that end
abbrev pub lies_at : ℕ → End → Dog → Bool
lies_at lever end dog = dog.lever == lever && has_notch dog.notches (stand_at end)

-- one of a bridle's dogs lies so
abbrev pub uses_at : ℕ → End → Bridle → Bool
uses_at lever end bridle = list_any (lies_at lever end) bridle.dogs

-- the numbers, counted on from a number, of the bridles with a dog that lies in a notch of the lever at that end
abbrev pub using : ℕ → ℕ → End → List Bridle → List ℕ
using from lever end [] = []
using from lever end (bridle ∷ bridles) =
    if uses_at lever end bridle then from ∷ using (from + 1) lever end bridles else using (from + 1) lever end bridles

-- for each lever the numbers, from 0, of the bridles with a dog that lies in a notch of it at that end
pub record IsIndex (levers : ℕ) (end : End) (bridles : List Bridle) (uses : List (List ℕ)) : Type 0 where
  pub wide : length uses ≡ levers
  pub each : (at : ℕ) → at < levers → slice_index_or uses at [] ≡ using 0 (at + 1) end bridles

-- for each bridle how many of its dogs lie in notches
abbrev pub lying_in_each : LeverPlace → List Bridle → List ℕ
lying_in_each places bridles = map (λ bridle. lying_dogs places bridle.dogs) bridles

-- of two indexes, one for each end, that for an end
abbrev pub index_at : End → List (List ℕ) → List (List ℕ) → List (List ℕ)
index_at NormalEnd at_normal at_reversed = at_normal
index_at ReversedEnd at_normal at_reversed = at_reversed

-- every bridle is seated; the index for each end has for each lever the bridles with a dog that lies in a notch of it
-- there; and the dogs that lie in notches are counted
pub record IsFrame (ends : List End) (bridles : List Bridle) (at_normal at_reversed : List (List ℕ)) (lying : List ℕ)
    : Type 0 where
  pub few : length bridles < 2 ^ 32
  pub fits : All (BridleFits (length ends)) bridles
  pub seated : All (IsSeated (at_ends ends)) bridles
  pub index : (end : End) → IsIndex (length ends) end bridles (index_at end at_normal at_reversed)
  pub counts : lying ≡ lying_in_each (at_ends ends) bridles

-- how an index is built: a bridle's number goes behind those of each lever in which one of its dogs lies at that end

abbrev pub used_one : List (List ℕ) → End → ℕ → Dog → List (List ℕ)
used_one uses end number dog =
    if has_notch dog.notches (stand_at end)
    then slice_set uses (dog.lever - 1) (slice_index_or uses (dog.lever - 1) [] ++ number ∷ []) else uses

abbrev pub used_by : List (List ℕ) → End → ℕ → List Dog → List (List ℕ)
used_by uses end number [] = uses
used_by uses end number (dog ∷ dogs) = used_by (used_one uses end number dog) end number dogs

abbrev pub used_by_all : List (List ℕ) → End → ℕ → List Bridle → List (List ℕ)
used_by_all uses end from [] = uses
used_by_all uses end from (bridle ∷ bridles) = used_by_all (used_by uses end from bridle.dogs) end (from + 1) bridles

abbrev pub no_bridle : Bridle
no_bridle = record { dogs = []; row = 0 }

-- by how many dogs lie in each: of the bridles with these numbers, from 0, the first of which one alone lies
abbrev pub first_lone : List ℕ → List ℕ → Shift
first_lone lying [] = Shifted
first_lone lying (n ∷ ns) = if slice_index_or lying n 0 == 1 then HeldBy (n + 1) else first_lone lying ns

-- how the dogs that lie are counted as a lever moves: once more or once less in the bridles with these numbers

abbrev pub one_fewer : ℕ → ℕ
one_fewer dogs = dogs - 1

abbrev pub one_more : ℕ → ℕ
one_more dogs = min (dogs + 1) (2 ^ 64 - 1)

abbrev pub counted : (ℕ → ℕ) → List ℕ → List ℕ → List ℕ
counted next lying [] = lying
counted next lying (n ∷ ns) = counted next (slice_set lying n (next (slice_index_or lying n 0))) ns
