-- Pairs of rows that hold as much as another row.
use Rattle.std.specs.Prelude.{◌≢◌, ℕ, ◌<◌, Option, Some, None, length, slice_index_or}
use Rattle.locking_table.specs.declared.row.Row.{Row}
use Rattle.locking_table.specs.Index.{no_row}
use Rattle.frame_walk.specs.Walked.{Walked}
use Rattle.row_covers.specs.declared.pairs.RowPair.{RowPair}
use Rattle.row_covers.specs.Covers.{CoverTogether}

-- the row at a place, from 0
abbrev pub row_of : Walked → ℕ → Row
row_of walked at = slice_index_or walked.rows at no_row

-- the rows at two places are others than the one at a place, and together hold all that it holds
pub record IsPair (walked : Walked) (at one two : ℕ) : Type 0 where
  pub one_other : one ≢ at
  pub two_other : two ≢ at
  pub cover : CoverTogether walked (row_of walked one) (row_of walked two) (row_of walked at)

-- none of the rows behind one and before a place makes a pair with it
abbrev pub IsAlone : Walked → ℕ → ℕ → ℕ → Type 0
IsAlone walked at one below = (two : ℕ) → one < two → two < below → ¬ IsPair walked at one two

-- the first row behind one that makes a pair with it
pub record IsFirstBehind (walked : Walked) (at one two : ℕ) : Type 0 where
  pub behind : one < two
  pub within : two < length walked.rows
  pub pair : IsPair walked at one two
  pub first : IsAlone walked at one two

-- the same, if one does
abbrev pub IsPartner : Walked → ℕ → ℕ → Option ℕ → Type 0
IsPartner walked at one None = IsAlone walked at one (length walked.rows)
IsPartner walked at one (Some two) = IsFirstBehind walked at one two

-- none of the rows before a place makes a pair with one behind it
abbrev pub AreAlone : Walked → ℕ → ℕ → Type 0
AreAlone walked at below = (one : ℕ) → one < below → IsAlone walked at one (length walked.rows)

-- the first row that makes a pair with one behind it, and the first with which it does
pub record IsFirstPair (walked : Walked) (at : ℕ) (pair : RowPair) : Type 0 where
  pub two : IsFirstBehind walked at pair.one pair.two
  pub first : AreAlone walked at pair.one

-- the first pair of rows that holds as much as the one at a place, if two do
abbrev pub IsPairFound : Walked → ℕ → Option RowPair → Type 0
IsPairFound walked at None = AreAlone walked at (length walked.rows)
IsPairFound walked at (Some pair) = IsFirstPair walked at pair
