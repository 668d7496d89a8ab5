-- A chain of rows while it is followed.
use Rattle.std.specs.Prelude.{◌≡◌, ℕ, ◌+◌, ◌-◌, ◌<◌, List, [], ◌∷◌, ◌++◌, Option, Some, None, length}
use Rattle.std.specs.Prelude.{drop, is_none, replicate, slice_index_or, slice_set, take}
use Rattle.std.specs.List.{count_by}
use Rattle.locking_table.specs.declared.row.Row.{Row}
use Rattle.locking_table.specs.Places.{IsLever}
use Rattle.frame_walk.specs.Walked.{Walked}
use Rattle.row_circles.specs.declared.chain.Chain.{Chain}
use Rattle.row_circles.specs.Circles.{IsChain, named_by}

-- a chain without rows, which has passed none of so many levers
pub record IsStart (levers lever : ℕ) (chain : Chain) : Type 0 where
  pub here : chain.here ≡ lever
  pub rows : chain.rows.items ≡ []
  pub passed : chain.passed.items ≡ replicate levers None

-- the chain has gone on by the row at a place
pub record IsLonger (table : List Row) (at : ℕ) (old new : Chain) : Type 0 where
  pub here : new.here ≡ named_by table old.here at
  pub rows : new.rows.items ≡ old.rows.items ++ at ∷ []
  pub passed : new.passed.items ≡ slice_set old.passed.items (old.here - 1) (Some (length old.rows.items))

-- the chain from a first lever to the present one has passed another lever, whose row stands at a place in it
pub record IsPassed (walked : Walked) (holders : List (Option ℕ)) (first lever here place : ℕ) (rows : List ℕ)
    : Type 0 where
  pub within : place < length rows
  pub before : IsChain walked holders first (take place rows) lever
  pub behind : IsChain walked holders lever (drop place rows) here

-- the chain was followed from a first lever on
pub record IsFollowed (walked : Walked) (holders : List (Option ℕ)) (first : ℕ) (chain : Chain) : Type 0 where
  pub long : length chain.passed.items ≡ walked.levers
  pub ours : IsLever walked.levers chain.here
  pub leads : IsChain walked holders first chain.rows.items chain.here
  pub each : (k place : ℕ) → k < walked.levers → slice_index_or chain.passed.items k None ≡ Some place
      → IsPassed walked holders first (k + 1) chain.here place chain.rows.items

-- how many levers the chain hasn't passed
abbrev pub left_of : Chain → ℕ
left_of chain = count_by (λ (place : Option ℕ). is_none place) chain.passed.items
