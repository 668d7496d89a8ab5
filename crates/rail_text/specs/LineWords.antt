-- The words of a text by where they end, and some of them in a row.
use Rattle.std.specs.Prelude.{◌≡◌, ℕ, zero, suc, ◌+◌, ◌^◌, ◌<◌, ◌≤◌, ◌==◌, List, [], ◌∷◌, length, slice_get, Some}
use Rattle.std.specs.Prelude.{if◌then◌else◌}
use Rattle.rail_text.specs.Lines.{words_of}

-- behind how many bytes of a text its word of this number, from 0, ends: at a space, or at the end of the text
abbrev pub word_end : List ℕ → ℕ → ℕ
word_end [] i = 0
word_end (b ∷ bs) zero = if b == 32 then 0 else suc (word_end bs zero)
word_end (b ∷ bs) (suc i) = if b == 32 then suc (word_end bs i) else suc (word_end bs (suc i))

-- behind how many bytes of a text its word of this number begins: at the start of the text, or behind a space
abbrev pub word_start : List ℕ → ℕ → ℕ
word_start text zero = 0
word_start text (suc i) = suc (word_end text i)

-- Where the first words of a text end is kept, of 16 words at most.
pub record AreEnds (text ends : List ℕ) (kept : ℕ) : Type 0 where
  pub room : length ends ≡ 16
  pub few : kept ≤ 16
  pub each : (i : ℕ) → i < kept → slice_get ends i ≡ Some (word_end text i)

-- A text has so many words from the one with a number on, and where its first words end is kept.
pub record AreCut (text ends : List ℕ) (kept from count : ℕ) : Type 0 where
  pub kept_ends : AreEnds text ends kept
  pub there : from + count ≤ length (words_of text)
  pub fits : from + count < 2 ^ 64
