-- Which call of its script each entry of a journal is.
use Rattle.std.specs.Prelude.{◌≡◌, ℕ, ◌+◌, List, Some, length, take, slice_get, slice_index_or}
use Rattle.line_law.specs.declared.call.Entry.{Entry}
use Rattle.line_law.specs.History.{part_of}

-- entry i of a journal, of box b, is this call of its script, from 1
abbrev pub number_at : List Entry → ℕ → ℕ → ℕ
number_at journal b i = length (part_of b (take (i + 1) journal))

-- which call of its script each entry is
pub record AreNumbers (journal : List Entry) (numbers : List ℕ) : Type 0 where
  pub each : length numbers ≡ length journal
  pub at : (i : ℕ) (e : Entry) → slice_get journal i ≡ Some e
      → slice_index_or numbers i 0 ≡ number_at journal e.box_no i
