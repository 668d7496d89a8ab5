-- A text that is cut into its words up to a place.
use Rattle.std.specs.Prelude.{◌≡◌, ℕ, ◌+◌, ◌<◌, ◌≤◌, ◌==◌, Bool, true, false, ◌||◌, List, [], ◌∷◌, drop, length}
use Rattle.std.specs.Prelude.{slice_get, Some, if◌then◌else◌}
use Rattle.std.specs.List.{list_any}
use Rattle.rail_text.specs.Lines.{words_of, is_empty_word}
use Rattle.rail_text.specs.LineWords.{word_end}

-- whether a word of what is left is empty, where the word so far is or isn't
abbrev pub gap : Bool → List ℕ → Bool
gap empty [] = empty
gap empty (b ∷ bs) = if b == 32 then (empty || gap true bs) else gap false bs

-- Up to a place of a text stand so many spaces.
pub record IsCutTo (text : List ℕ) (at spaces : ℕ) : Type 0 where
  pub low : spaces ≤ at
  pub ends : (k : ℕ) → word_end text (spaces + k) ≡ word_end (drop at text) k + at
  pub words : spaces + length (words_of (drop at text)) ≡ length (words_of text)

-- The same, and where the first words end is kept, of as many as there is room for, if the text is short; the word at
-- the place begins at `start`, and `empty` tells whether a word before it is empty.
pub record IsCutUpTo (text ends : List ℕ) (at spaces start : ℕ) (empty : Bool) : Type 0 where
  pub cut : IsCutTo text at spaces
  pub room : length ends ≡ 16
  pub each : length text < 256 → (i : ℕ) → i < spaces → i < 16 → slice_get ends i ≡ Some (word_end text i)
  pub low : start ≤ at
  pub gaps : (empty || gap (at == start) (drop at text)) ≡ list_any is_empty_word (words_of text)
