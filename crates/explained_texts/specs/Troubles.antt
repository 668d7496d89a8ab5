-- Why a text was not had, and how that is told.
use Rattle.std.specs.Prelude.{◌≡◌, ℕ, ◌-◌, List, [], ◌∷◌, ◌++◌, codes, take, get_or, string_bytes, Option, IfSome}
use Rattle.std.specs.Prelude.{Result, Ok, Err}
use Rattle.rail_text.specs.declared.cause.Cause.{Cause}
use Rattle.text_fetch.specs.FromTexts.{FromTexts, Held, IsGiven, StopsAt}
use Rattle.text_fetch.specs.declared.stop.Stop.{Stop}
use Rattle.text_fetch.specs.declared.stop.Stop.TheVariants as stops
use Rattle.fault_sentences.specs.Explained.{Explains}
use Rattle.explained_texts.specs.declared.trouble.Trouble.{Trouble}
use Rattle.explained_texts.specs.declared.trouble.Trouble.TheVariants as troubles

-- the stop of a run that is the same
abbrev pub stop_shown : Trouble → Stop
stop_shown (troubles.Untaken line) = stops.ShelfFault
stop_shown (troubles.Refused text line cause told) = stops.Refused text line cause
stop_shown troubles.NoMemory = stops.NoMemory

-- a line of the program's own, behind its name
abbrev pub IsOwnLine : List ℕ → Type 0
IsOwnLine line = (rest : List ℕ) × (line ≡ codes "signalbox: " ++ rest)

-- what is told of a file, behind its name, in a line
abbrev pub trouble_line : List ℕ → List ℕ → List ℕ
trouble_line file what = codes "signalbox: " ++ file ++ codes ": " ++ what ++ 10 ∷ []

-- just this line is told, unless memory ran out
abbrev pub IsToldAs : List ℕ → Trouble → Type 0
IsToldAs line (troubles.Untaken told) = string_bytes told ≡ line
IsToldAs line (troubles.Refused text number cause told) = ⊥
IsToldAs line troubles.NoMemory = Unit {0}

-- no text is refused; what is told is a line of the program's own
abbrev pub IsNoRefusal : Trouble → Type 0
IsNoRefusal (troubles.Untaken line) = IsOwnLine (string_bytes line)
IsNoRefusal (troubles.Refused text line cause told) = ⊥
IsNoRefusal troubles.NoMemory = Unit {0}

-- what is told of trouble
abbrev pub told_of : Trouble → List ℕ
told_of (troubles.Untaken line) = string_bytes line
told_of (troubles.Refused text line cause told) = string_bytes told
told_of troubles.NoMemory = codes "signalbox: out of memory\n"

-- where a text can't be had, this holds
abbrev pub IfUntaken : Trouble → Type 0 → Type 0
IfUntaken (troubles.Untaken line) P = P
IfUntaken (troubles.Refused text line cause told) P = Unit {0}
IfUntaken troubles.NoMemory P = Unit {0}

-- text n is refused for what is wrong with that line, unless memory ran out
abbrev pub IsRefusalOf : ℕ → ℕ → Cause → Trouble → Type 0
IsRefusalOf n l wrong (troubles.Untaken line) = ⊥
IsRefusalOf n l wrong (troubles.Refused text line cause told) = (text ≡ n) × (line ≡ l) × (cause ≡ wrong)
IsRefusalOf n l wrong troubles.NoMemory = Unit {0}

-- a step makes what is told, or stops as is told
abbrev pub MakesOr : {X A : Type 0} → (X → A) → Result X Trouble → FromTexts A → Type 0
MakesOr view (Ok x) told = IsGiven (view x) told
MakesOr view (Err trouble) told = StopsAt (stop_shown trouble) told

-- ---- explanations

-- text n is refused, and that is explained under this name, with these bytes, unless memory ran out
abbrev pub IsExplained : ℕ → List ℕ → List ℕ → Trouble → Type 0
IsExplained n name bytes (troubles.Untaken line) = ⊥
IsExplained n name bytes (troubles.Refused text line cause told) =
    (text ≡ n) × Explains name bytes line cause (string_bytes told)
IsExplained n name bytes troubles.NoMemory = Unit {0}

-- bytes are the first of what a shelf holds, where it tells it
abbrev pub IsFront : Option (List ℕ) → List ℕ → Type 0
IsFront held bytes = IfSome held (λ all. (n : ℕ) × (bytes ≡ take n all))

-- the explanation of a fault of the text of this name, by the first bytes of what the shelf holds
pub record ExplainsHeld (held : Held) (name : List ℕ) (line : ℕ) (cause : Cause) (told : List ℕ) : Type 0 where
  pub bytes : List ℕ
  pub front : IsFront (held name) bytes
  pub explains : Explains name bytes line cause told

-- a refusal is of text n, and is explained under this name, by the first bytes of what the shelf holds
abbrev pub IsExplainedAt : Held → ℕ → List ℕ → Trouble → Type 0
IsExplainedAt held n name (troubles.Untaken line) = IsOwnLine (string_bytes line)
IsExplainedAt held n name (troubles.Refused text line cause told) =
    (text ≡ n) × ExplainsHeld held name line cause (string_bytes told)
IsExplainedAt held n name troubles.NoMemory = Unit {0}

-- the name of text n, from 1, of a plan and scripts
abbrev pub name_of_text : List ℕ → List (List ℕ) → ℕ → List ℕ
name_of_text plan scripts n = get_or (plan ∷ scripts) (n - 1) []

-- a refusal of a text of a run is explained under its name, by the first bytes of what the shelf holds
abbrev pub IsExplainedOfRun : Held → List ℕ → List (List ℕ) → Trouble → Type 0
IsExplainedOfRun held plan scripts (troubles.Untaken line) = IsOwnLine (string_bytes line)
IsExplainedOfRun held plan scripts (troubles.Refused text line cause told) =
    ExplainsHeld held (name_of_text plan scripts text) line cause (string_bytes told)
IsExplainedOfRun held plan scripts troubles.NoMemory = Unit {0}
