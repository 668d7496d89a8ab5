-- Texts that are fetched, what is read of them, and why a text was not had.
use Rattle.std.specs.Prelude.{◌≡◌, ℕ, ◌+◌, ◌<◌, ◌≤◌, List, [], length, get_or, take, slice_index_or, Option, IfSome}
use Rattle.std.specs.Prelude.{IfOk, IsErrOf, Result}
use Rattle.std.specs.Global.{Vec}
use Rattle.rail_text.specs.Causes.{Rose}
use Rattle.rail_text.specs.declared.cause.ReadError.{ReadError}
use Rattle.rail_text.specs.declared.cause.ReadError.TheVariants as errors
use Rattle.line_plan.specs.Plans.{PlanFields}
use Rattle.script_text.specs.Scripts.{IsScriptOf, most_script_bytes, script_of}
use Rattle.script_text.specs.declared.script.Script.{Script}
use Rattle.text_fetch.specs.FromTexts.{Held, Makes, text_told}
use Rattle.text_fetch.specs.declared.stop.Stop.{Stop}
use Rattle.text_fetch.specs.declared.stop.Stop.TheVariants as stops

-- a fault of the shelf, or want of memory
abbrev pub IsNoRefusal : Stop → Type 0
IsNoRefusal stops.ShelfFault = Unit {0}
IsNoRefusal stops.NoMemory = Unit {0}
IsNoRefusal (stops.Refused text line cause) = ⊥

-- a reader's refusal of a text is a stop at that text
abbrev pub IsStopOf : ℕ → ReadError → Stop → Type 0
IsStopOf text (errors.Refused line cause) stop = stop ≡ stops.Refused text line cause
IsStopOf text errors.NoMemory stop = stop ≡ stops.NoMemory

-- ---- the texts of scripts

-- bytes that are fetched: the first of what the shelf holds, and one more than a script may have, if there are so many
abbrev pub IsFetched : Option (List ℕ) → List ℕ → Type 0
IsFetched held bytes = IfSome held (λ all. bytes ≡ take (most_script_bytes + 1) all)

-- texts that are fetched under the first of these names, in turn
pub record AreFetched (held : Held) (names : List (List ℕ)) (texts : List (Vec ℕ)) : Type 0 where
  pub few : length texts ≤ length names
  pub each : (b : ℕ) (d : Vec ℕ) → b < length texts
      → IsFetched (held (get_or names b [])) (slice_index_or texts b d).items

-- the fetch behind so many texts failed: the count of the next name rose
pub record HasFaultBehind (before now : List ℕ → ℕ) (names : List (List ℕ)) (count : ℕ) : Type 0 where
  pub within : count < length names
  pub rose : Rose (before (get_or names count [])) (now (get_or names count []))

-- what the fetched bytes of box b give: its script, or why they spell none, whatever the shelf holds of which they are
-- the first
pub record IsScriptRead (plan : PlanFields) (b : ℕ) (bytes : List ℕ) (read : Result Script Stop) : Type 0 where
  pub told : (held : Option (List ℕ)) → IsFetched held bytes
      → Makes (λ script. script) read (text_told (b + 2) (script_of plan b) held)
  pub own : IfOk read (λ script. IsScriptOf plan b script)
  pub fetched : IsErrOf read stops.ShelfFault → ⊥

-- each text is read as that of its box
abbrev pub AreEachRead : PlanFields → List (Vec ℕ) → List (Result Script Stop) → Type 0
AreEachRead plan texts read = (b : ℕ) (d : Vec ℕ) (r : Result Script Stop) → b < length texts
    → IsScriptRead plan b (slice_index_or texts b d).items (slice_index_or read b r)
