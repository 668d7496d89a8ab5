-- The scripts of all boxes of a line but one.
use Rattle.std.specs.Prelude.{◌≡◌, ◌≢◌, ℕ, ◌+◌, ◌-◌, List, [], get_or, nat_lt, if◌then◌else◌, Some, slice_get}
use Rattle.std.specs.Prelude.{string_bytes}
use Rattle.line_plan.specs.Plans.{PlanFields}
use Rattle.script_text.specs.Scripts.{script_of}
use Rattle.script_text.specs.declared.script.Script.{Script}
use Rattle.text_fetch.specs.FromTexts.{Held, IsGiven, text_told}
use Rattle.explained_texts.specs.Troubles.{ExplainsHeld}
use Rattle.explained_texts.specs.declared.trouble.Trouble.{Trouble}
use Rattle.explained_texts.specs.declared.trouble.Trouble.TheVariants as troubles

-- at which place the name of the script of box b stands, where box `own` has none
abbrev pub place_of : ℕ → ℕ → ℕ
place_of own b = if nat_lt b own then b else b - 1

-- the script of box b, if it isn't box `own`, is what the text of its name spells
abbrev pub IsOther : Held → PlanFields → ℕ → List (List ℕ) → ℕ → Script → Type 0
IsOther held plan own names b script =
    b ≢ own → IsGiven script (text_told (b + 2) (script_of plan b) (held (get_or names (place_of own b) [])))

-- so is that of each box
abbrev pub AreOthers : Held → PlanFields → ℕ → List (List ℕ) → List Script → Type 0
AreOthers held plan own names scripts =
    (b : ℕ) (script : Script) → slice_get scripts b ≡ Some script → IsOther held plan own names b script

-- a refusal is explained under the name of its text, by the first bytes of what the shelf holds
abbrev pub IsExplainedByName : Held → Trouble → Type 0
IsExplainedByName held (troubles.Untaken line) = Unit {0}
IsExplainedByName held (troubles.Refused text line cause told) =
    (name : List ℕ) × ExplainsHeld held name line cause (string_bytes told)
IsExplainedByName held troubles.NoMemory = Unit {0}
