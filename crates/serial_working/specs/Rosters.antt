-- Scripts of which some calls are made.
use Rattle.std.specs.Prelude.{◌≡◌, ℕ, ◌≤◌, List, [], ◌∷◌, Option, Some, None, length, map, drop, slice_set, All}
use Rattle.line_law.specs.declared.call.Call.{Call}
use Rattle.line_law.specs.Serial.{calls_left}
use Rattle.script_text.specs.Scripts.{most_calls}
use Rattle.script_text.specs.declared.script.Script.{Script}

-- the calls of each script
abbrev pub calls_of_scripts : List Script → List (List Call)
calls_of_scripts scripts = map (λ script. script.calls) scripts

-- what is left of each script, of which so many calls are made
abbrev pub left_of : List (List Call) → List ℕ → List (List Call)
left_of [] made = []
left_of (calls ∷ scripts) [] = calls ∷ left_of scripts []
left_of (calls ∷ scripts) (count ∷ made) = drop count calls ∷ left_of scripts made

-- the first call, if there is one
abbrev pub head_of : List Call → Option Call
head_of [] = None
head_of (call ∷ calls) = Some call

-- no script has more calls than a script may have
abbrev pub AreFewCalls : List Script → Type 0
AreFewCalls scripts = All (λ script. length script.calls ≤ most_calls) scripts

-- a count for each of these scripts
pub record IsRoster (scripts : List Script) (made : List ℕ) : Type 0 where
  pub counts : length made ≡ length scripts
  pub few : AreFewCalls scripts

-- the next call of box b is taken, and what is left of the others stays
pub record TakesCall (old new : List (List Call)) (b : ℕ) (call : Call) : Type 0 where
  pub taken : calls_left old b ≡ call ∷ drop 1 (calls_left old b)
  pub left : new ≡ slice_set old b (drop 1 (calls_left old b))
