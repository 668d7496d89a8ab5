-- The words of a text.
use Rattle.std.specs.Prelude.{ℕ, List, [], ◌∷◌, ◌++◌, Option, Some, None, if◌then◌else◌, ◌==◌}
use Rattle.std.specs.List.{flat_map}

-- a byte in front of the first word
abbrev pub onto_word : ℕ → List (List ℕ) → List (List ℕ)
onto_word b [] = (b ∷ []) ∷ []
onto_word b (word ∷ words) = (b ∷ word) ∷ words

-- what stands between single spaces, the byte 32
abbrev pub words_of : List ℕ → List (List ℕ)
words_of [] = [] ∷ []
words_of (b ∷ bs) = if b == 32 then [] ∷ words_of bs else onto_word b (words_of bs)

-- the words of what is left behind a word, if anything is
abbrev pub words_after : Option (List ℕ) → List (List ℕ)
words_after None = []
words_after (Some rest) = words_of rest

-- what stands before the first space, and what behind it, if there is one
abbrev pub cut_of : List ℕ → List ℕ × Option (List ℕ)
cut_of [] = ([], None)
cut_of (b ∷ bs) = if b == 32 then ([], Some bs) else (b ∷ (cut_of bs).0, (cut_of bs).1)

-- each word behind a space
abbrev pub spaced : List (List ℕ) → List ℕ
spaced words = flat_map (λ word. 32 ∷ word) words

-- the text of words with single spaces between them
abbrev pub joined : List (List ℕ) → List ℕ
joined [] = []
joined (word ∷ words) = word ++ spaced words

-- the words that are left of a text, and the number of the first of them, from 1 for the text's first word
pub record Left : Type 0 where
  pub number : ℕ
  pub words : List (List ℕ)
