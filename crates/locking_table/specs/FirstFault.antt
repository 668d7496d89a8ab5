-- Where a text leaves the grammar of rows.
use Rattle.std.specs.Prelude.{◌≡◌, ◌≢◌, ℕ, false, ◌+◌, List, [], ◌∷◌, ◌++◌, length}
use Rattle.locking_table.specs.declared.row.Row.{Row}
use Rattle.locking_table.specs.Printing.{row_text, row_words}
use Rattle.locking_table.specs.Sound.{IsGrammarRow, all_differ, levers_of}

-- some row's text begins with these words
pub record BeginsRow (words : List (List ℕ)) : Type 0 where
  pub row : Row
  pub grammar : IsGrammarRow row
  pub more : List (List ℕ)
  pub split : row_words row ≡ words ++ more

-- behind the words in front no row's text goes on with the next word, or, where none is left, no row's text ends
abbrev pub LeavesGrammar : List (List ℕ) → List (List ℕ) → Type 0
LeavesGrammar front [] = (row : Row) → IsGrammarRow row → row_words row ≢ front
LeavesGrammar front (word ∷ words) = (row : Row) → IsGrammarRow row → (more : List (List ℕ))
    → row_words row ≢ front ++ word ∷ more

-- the word with this number, from 1, is the first with which no row's text goes on, or one past the last word
pub record StopsAt (words : List (List ℕ)) (number : ℕ) : Type 0 where
  pub front : List (List ℕ)
  pub rest : List (List ℕ)
  pub split : words ≡ front ++ rest
  pub place : number ≡ length front + 1
  pub begins : BeginsRow front
  pub leaves : LeavesGrammar front rest

-- a row's text that names a lever twice
pub record NamesTwice (text : List ℕ) : Type 0 where
  pub row : Row
  pub grammar : IsGrammarRow row
  pub text_is : text ≡ row_text row
  pub again : all_differ (levers_of row) ≡ false
