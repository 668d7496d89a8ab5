-- What `run` makes of the texts that its words name.
use Rattle.std.specs.Prelude.{◌≡◌, ℕ, ◌+◌, ◌<◌, zero, suc, ◌==◌, List, [], ◌∷◌, ◌++◌, length, take, get_or}
use Rattle.std.specs.Prelude.{Some, slice_get, if◌then◌else◌}
use Rattle.rail_text.specs.Causes.{Rose}
use Rattle.rail_text.specs.declared.cause.Cause.TheVariants as causes
use Rattle.line_plan.specs.Plans.{PlanFields}
use Rattle.script_text.specs.Scripts.{IsScriptOf, script_of}
use Rattle.script_text.specs.declared.script.Script.{Script}
use Rattle.text_fetch.specs.FromTexts.{Held, FromTexts, Gives, Refuses, told_then, text_told, plan_told, IsNotRefused}

-- the scripts of these names behind those that are read; the script of box b is text b + 2
abbrev pub scripts_told : Held → PlanFields → List Script → List (List ℕ) → FromTexts (List Script)
scripts_told held plan done [] = Gives done
scripts_told held plan done (name ∷ names) =
    told_then (text_told (length done + 2) (script_of plan (length done)) (held name))
    (λ script. scripts_told held plan (done ++ script ∷ []) names)

-- the number of scripts is the number of boxes
abbrev pub count_told : PlanFields → ℕ → FromTexts (Unit {0})
count_told plan count = if count == length plan.boxes then Gives tt
    else Refuses 1 (record { line = 0; cause = causes.ScriptCount })

-- each is the script of its box, in box order
abbrev pub AreOwn : PlanFields → List Script → Type 0
AreOwn plan scripts = (b : ℕ) (script : Script) → slice_get scripts b ≡ Some script → IsScriptOf plan b script

-- scripts of a line: one for each box, in box order
pub record AreScriptsOf (plan : PlanFields) (scripts : List Script) : Type 0 where
  pub each : length scripts ≡ length plan.boxes
  pub own : AreOwn plan scripts

-- a plan, and a script for each of its boxes
pub record Run : Type 0 where
  pub plan : PlanFields
  pub scripts : List Script

-- in the order of fetching: the plan, the number of scripts, then each script
abbrev pub run_told : Held → List ℕ → List (List ℕ) → FromTexts Run
run_told held plan_name names =
    told_then (plan_told held plan_name) (λ plan.
    told_then (count_told plan (length names)) (λ counted.
    told_then (scripts_told held plan [] names) (λ scripts. Gives (record { plan = plan; scripts = scripts }))))

-- what is told before text k of a run, from 0, is fetched: the plan, the number of scripts, and the scripts up to there
abbrev pub run_told_before : Held → List ℕ → List (List ℕ) → ℕ → FromTexts (Unit {0})
run_told_before held plan_name names zero = Gives tt
run_told_before held plan_name names (suc k) =
    told_then (plan_told held plan_name) (λ plan.
    told_then (count_told plan (length names)) (λ counted.
    told_then (scripts_told held plan [] (take k names)) (λ scripts. Gives tt)))

-- the scripts of a run that is told are scripts of its line
abbrev pub AreWorked : FromTexts Run → Type 0
AreWorked told = (run : Run) → told ≡ Gives run → AreScriptsOf run.plan run.scripts

-- the count of some named script rose, and no script before it is refused
pub record HasScriptFault (held : Held) (before now : List ℕ → ℕ) (plan : PlanFields) (names : List (List ℕ))
    : Type 0 where
  pub place : ℕ
  pub within : place < length names
  pub rose : Rose (before (get_or names place [])) (now (get_or names place []))
  pub free : IsNotRefused (scripts_told held plan [] (take place names))
