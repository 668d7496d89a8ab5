-- Which word is meant by one that is typed.
use Rattle.std.specs.Prelude.{◌≡◌, ℕ, Bool, true, ◌&&◌, List, [], ◌∷◌, filter, map, Option, Some, None, Result, Ok, Err}
use Rattle.std.specs.Prelude.{if◌then◌else◌, bytes_eq, nat_eq}
use Rattle.std.specs.List.{list_any, starts_with}
use Rattle.rail_text.specs.declared.cause.Cause.{Cause}
use Rattle.typed_words.specs.declared.table.Meaning.{Meaning}
use Rattle.typed_words.specs.declared.table.WordKind.{WordKind}
use Rattle.typed_words.specs.Table.{may_stand, word_rows}

-- a word with what it means
abbrev pub Row : Type 0
Row = List ℕ × Meaning

-- What isn't understood in a line. Unknown: the word with this number in the line, from 0, begins none of the words
-- that may stand there, which are these; or it is missing there. Several: it begins several of them, which are these.
-- Refused: the cause for which a script with this call would be refused, or for which the line would.
pub data Misread : Type 0 where
  Unknown : ℕ → List (List ℕ) → Misread
  Several : ℕ → List (List ℕ) → Misread
  Refused : Cause → Misread

-- the words of rows
abbrev pub words_in : List Row → List (List ℕ)
words_in rows = map (λ row. row.0) rows

-- the word begins with what is typed
abbrev pub begins : List ℕ → List ℕ → Bool
begins typed word = starts_with nat_eq word typed

-- of these rows, those whose word may stand there and begins so
abbrev pub fitting_of : List Row → WordKind → List ℕ → List Row
fitting_of rows kind typed = filter (λ row. may_stand kind row.1 && begins typed row.0) rows

-- the words that may stand there and begin so, with their meanings
abbrev pub fitting : WordKind → List ℕ → List Row
fitting kind typed = fitting_of word_rows kind typed

-- the words that may stand there
abbrev pub words_at : WordKind → List (List ℕ)
words_at kind = words_in (fitting kind [])

-- the first row whose word is the typed one as a whole
abbrev pub whole : List Row → List ℕ → Option Row
whole [] typed = None
whole (row ∷ rows) typed = if bytes_eq row.0 typed then Some row else whole rows typed

-- a row that is found, or else the only one
abbrev pub or_only : Option Row → List Row → Option Row
or_only (Some row) rows = Some row
or_only None [] = None
or_only None (row ∷ []) = Some row
or_only None (row ∷ next ∷ rows) = None

-- of the words that begin so, the typed one as a whole, or else the only one
abbrev pub chosen : List Row → List ℕ → Option Row
chosen rows typed = or_only (whole rows typed) rows

-- the chosen word; or else, which words may stand there, or which of them begin so
abbrev pub chosen_of : WordKind → ℕ → List Row → Option Row → Result Row Misread
chosen_of kind at fits (Some row) = Ok row
chosen_of kind at [] None = Err (Misread.Unknown at (words_at kind))
chosen_of kind at (row ∷ rows) None = Err (Misread.Several at (words_in (row ∷ rows)))

-- the word that is meant by a typed one, with this number in the line: itself where it may stand there, or else the
-- only one that may stand there and begins so
unfoldable pub meant : WordKind → ℕ → List ℕ → Result Row Misread
meant kind at typed = chosen_of kind at (fitting kind typed) (chosen (fitting kind typed) typed)

-- A typed word is understood as this one: it may stand there and begins as the typed one, and where it isn't the typed
-- one, no other word that may stand there begins so.
pub record IsUnderstood (kind : WordKind) (typed word : List ℕ) : Type 0 where
  pub stands : list_any (bytes_eq word) (words_at kind) ≡ true
  pub begins_so : begins typed word ≡ true
  pub only : (other : List ℕ) → list_any (bytes_eq other) (words_at kind) ≡ true → begins typed other ≡ true
      → ¬ (word ≡ typed) → other ≡ word
