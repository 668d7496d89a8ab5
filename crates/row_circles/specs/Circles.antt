-- Circles of rows that hold levers in every state.
use Rattle.std.specs.Prelude.{◌≡◌, ℕ, ◌-◌, ◌<◌, List, [], ◌∷◌, Option, Some, None, length, slice_index_or}
use Rattle.std.specs.Global.{Vec}
use Rattle.locking_table.specs.declared.row.Row.{Row}
use Rattle.locking_table.specs.Index.{no_row}
use Rattle.locking_table.specs.Meaning.{holding_lever}
use Rattle.locking_table.specs.Places.{IsLever}
use Rattle.frame_walk.specs.Walked.{Walked}
use Rattle.frame_findings.specs.Frozen.{HoldsAlways}

-- the row at a place, from 0, holds a lever in every state that is kept
pub record IsHeldBy (walked : Walked) (lever at : ℕ) : Type 0 where
  pub within : at < length walked.rows
  pub always : HoldsAlways walked lever (slice_index_or walked.rows at no_row)

-- the row that is known to hold a lever so
abbrev pub holder_at : List (Option ℕ) → ℕ → Option ℕ
holder_at holders lever = slice_index_or holders (lever - 1) None

abbrev pub IsHolder : Walked → ℕ → Option ℕ → Type 0
IsHolder walked lever None = Unit {0}
IsHolder walked lever (Some at) = IsHeldBy walked lever at

-- for each lever a row that holds it in every state that is kept, if one is known
pub record AreHolders (walked : Walked) (holders : List (Option ℕ)) : Type 0 where
  pub long : length holders ≡ walked.levers
  pub each : (lever : ℕ) → IsLever walked.levers lever → IsHolder walked lever (holder_at holders lever)

-- the row at a place is the one that is known to hold a lever, and does
pub record IsLink (walked : Walked) (holders : List (Option ℕ)) (lever at : ℕ) : Type 0 where
  pub known : holder_at holders lever ≡ Some at
  pub held : IsHeldBy walked lever at

-- the lever that the row at a place names where it holds another: for a row "A released by B" that holds A this is B
abbrev pub named_by : List Row → ℕ → ℕ → ℕ
named_by rows lever at = holding_lever (slice_index_or rows at no_row) lever

-- a chain of rows from one lever to another: each holds its lever in every state, and names that of the next
abbrev pub IsChain : Walked → List (Option ℕ) → ℕ → List ℕ → ℕ → Type 0
IsChain walked holders lever [] to = to ≡ lever
IsChain walked holders lever (at ∷ places) to =
    IsLink walked holders lever at × IsChain walked holders (named_by walked.rows lever at) places to

-- a chain leads from the lever to one of the circle, and from there the rows of the circle lead back to it
pub record IsCircle (walked : Walked) (holders : List (Option ℕ)) (lever : ℕ) (circle : List ℕ) : Type 0 where
  pub way : List ℕ
  pub first : ℕ
  pub leads : IsChain walked holders lever way first
  pub round : IsChain walked holders first circle first
  pub some : 0 < length circle

-- a chain leads from the lever to one for which no row is known
pub record IsEnding (walked : Walked) (holders : List (Option ℕ)) (lever : ℕ) : Type 0 where
  pub way : List ℕ
  pub last : ℕ
  pub leads : IsChain walked holders lever way last
  pub none : holder_at holders last ≡ None

-- round which circle the lever is held, if round one
abbrev pub IsRound : Walked → List (Option ℕ) → ℕ → Option (Vec ℕ) → Type 0
IsRound walked holders lever None = IsEnding walked holders lever
IsRound walked holders lever (Some circle) = IsCircle walked holders lever circle.items
