-- The text of a value.
use Rattle.std.specs.Prelude.{◌≡◌, ℕ, ◌≤◌, List, Some, false}
use Rattle.serde_json.specs.Data.{Data, Members, depth, members_depth}
use Rattle.serde_json.specs.Read.{read}
use Rattle.serde_json.specs.Written.{compact_text, has_float, members_have_float}

-- how many levels a reader of serde_json takes
abbrev pub most_levels : ℕ
most_levels = 127

-- a value that has no float and nests at most so many levels deep
pub record IsPlain (levels : ℕ) (d : Data) : Type 0 where
  pub no_float : has_float d ≡ false
  pub shallow : depth d ≤ levels

-- the same of members
pub record ArePlain (levels : ℕ) (ms : Members) : Type 0 where
  pub no_float : members_have_float ms ≡ false
  pub shallow : members_depth ms ≤ levels

-- the text of a value: with no space between its tokens, and read back as exactly that value
pub record IsTextOf (d : Data) (text : List ℕ) : Type 0 where
  pub compact : text ≡ compact_text d
  pub reads : read text ≡ Some d
