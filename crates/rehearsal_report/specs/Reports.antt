-- What is told in a report, line by line, and which texts tell it.
use Rattle.std.specs.Prelude.{◌≡◌, ℕ, ◌≤◌, ◌<◌, List, [], ◌∷◌, ◌++◌, Option, Some, None, length, replicate}
use Rattle.reply_sentences.specs.Sentences.{ArePrinting}

-- what a line tells
pub data Told : Type 0 where
  Whole : List ℕ → Told  -- the line, whole
  Row : List ℕ → List ℕ → Told  -- two columns
  Said : List ℕ → List ℕ → Told  -- two columns, and behind them a sentence
  Because : List ℕ → Told  -- a beginning, and directly behind it a sentence

-- a sentence: not empty, of bytes that print
pub record IsSentence (text : List ℕ) : Type 0 where
  pub some : 0 < length text
  pub printing : ArePrinting text

-- two blanks or more
pub record AreBlanks (text : List ℕ) : Type 0 where
  pub many : ℕ
  pub two : 2 ≤ many
  pub blank : text ≡ replicate many 32

-- two columns with blanks between them
pub record IsPair (first second text : List ℕ) : Type 0 where
  pub between : List ℕ
  pub blanks : AreBlanks between
  pub whole : text ≡ first ++ between ++ second

-- two columns and a sentence, with blanks between them
pub record IsSaid (first second text : List ℕ) : Type 0 where
  pub front : List ℕ
  pub pair : IsPair first second front
  pub between : List ℕ
  pub blanks : AreBlanks between
  pub sentence : List ℕ
  pub says : IsSentence sentence
  pub whole : text ≡ front ++ between ++ sentence

-- a beginning, and directly behind it a sentence
pub record IsBecause (beginning text : List ℕ) : Type 0 where
  pub sentence : List ℕ
  pub says : IsSentence sentence
  pub whole : text ≡ beginning ++ sentence

-- the text of a line, without its end, tells this
abbrev pub IsTold : Told → List ℕ → Type 0
IsTold (Whole whole) text = text ≡ whole
IsTold (Row first second) text = IsPair first second text
IsTold (Said first second) text = IsSaid first second text
IsTold (Because beginning) text = IsBecause beginning text

-- behind a text comes a line that tells this
pub record Tells (told : Told) (old new : List ℕ) : Type 0 where
  pub text : List ℕ
  pub is : IsTold told text
  pub behind : new ≡ old ++ text ++ 10 ∷ []

-- behind a text come lines that tell this, one after another
abbrev pub Reports : List Told → List ℕ → List ℕ → Type 0
Reports [] old new = new ≡ old
Reports (told ∷ tolds) old new = (middle : List ℕ) × Tells told old middle × Reports tolds middle new

-- ---- a line of two columns

-- what a line of two columns tells, with a sentence behind them or without
abbrev pub told_row : List ℕ → List ℕ → Option (List ℕ) → Told
told_row first second None = Row first second
told_row first second (Some sentence) = Said first second

-- behind a text come two blanks or more
pub record PutsBlanks (old new : List ℕ) : Type 0 where
  pub between : List ℕ
  pub blanks : AreBlanks between
  pub behind : new ≡ old ++ between

-- behind a text come two columns with blanks between them
pub record PutsPair (first second old new : List ℕ) : Type 0 where
  pub text : List ℕ
  pub is : IsPair first second text
  pub behind : new ≡ old ++ text
