-- A refusal stops a step as is told, and is explained.
use Rattle.std.proofs.Common.{◌≡◌, ℕ, List, Option, Some, None, IfSome, string_bytes, subst, take}
use Rattle.rail_text.specs.declared.cause.Cause.{Cause}
use Rattle.text_fetch.specs.FromTexts.{FromTexts, Held, IsRefused, StopsAt}
use Rattle.explained_texts.specs.Troubles.{ExplainsHeld, IsExplained, IsExplainedAt, IsExplainedOfRun, IsFront}
use Rattle.explained_texts.specs.Troubles.{IsRefusalOf, name_of_text, stop_shown}
use Rattle.explained_texts.specs.declared.trouble.Trouble.{Trouble}
use Rattle.explained_texts.specs.declared.trouble.Trouble.TheVariants as troubles

-- where a text is told to be refused, that refusal stops the step
pub refusal_stops : {A : Type 0} (n line : ℕ) (cause : Cause) (trouble : Trouble) (told : FromTexts A)
    → IsRefusalOf n line cause trouble → IsRefused n (record { line = line; cause = cause }) told
    → StopsAt (stop_shown trouble) told
refusal_stops n line cause (troubles.Untaken l) told is h = absurd is
refusal_stops n line cause (troubles.Refused text l c s) told is h = rw (is.0, is.1, is.2) h
refusal_stops n line cause troubles.NoMemory told is h = tt

-- ---- explanations

-- the first of what a shelf holds
pub front : (held : Option (List ℕ)) (most : ℕ) (bytes : List ℕ) → IfSome held (λ all. bytes ≡ take most all)
    → IsFront held bytes
front None most bytes h = tt
front (Some all) most bytes h = (most, h)

-- a refusal that is explained with the first bytes of what a shelf holds is explained by the shelf
pub explained_at : (held : Held) (n : ℕ) (name bytes : List ℕ) (trouble : Trouble) → IsFront (held name) bytes
    → IsExplained n name bytes trouble → IsExplainedAt held n name trouble
explained_at held n name bytes (troubles.Untaken line) front h = absurd h
explained_at held n name bytes (troubles.Refused text line cause told) front h =
    (h.0, record { bytes = bytes; front = front; explains = h.1 })
explained_at held n name bytes troubles.NoMemory front h = tt

-- the trouble of text n is that of a run, by the name of text n
pub explained_of_run : (held : Held) (plan : List ℕ) (scripts : List (List ℕ)) (n : ℕ) (name : List ℕ)
    (trouble : Trouble) → name ≡ name_of_text plan scripts n → IsExplainedAt held n name trouble
    → IsExplainedOfRun held plan scripts trouble
explained_of_run held plan scripts n name (troubles.Untaken line) is h = h
explained_of_run held plan scripts n name (troubles.Refused text line cause told) is h =
    rw h.0 (subst (λ (x : List ℕ). ExplainsHeld held x line cause (string_bytes told)) is h.1)
explained_of_run held plan scripts n name troubles.NoMemory is h = tt
