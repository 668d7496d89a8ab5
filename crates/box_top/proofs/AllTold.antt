-- Texts that are all told.
use Rattle.std.proofs.Common.{ℕ, ◌+◌, ◌++◌, Bool, true, false, cond, eqb, List, [], ◌∷◌, Option, Some, None, Result, Ok}
use Rattle.std.proofs.Common.{Err, IsSome, length}
use Rattle.std.proofs.lemmas.List.Elements.{All-head, All-tail}
use Rattle.rail_text.specs.Gives.{Fault}
use Rattle.rail_text.specs.declared.cause.Cause.TheVariants as causes
use Rattle.line_plan.specs.Plans.{PlanFields}
use Rattle.plan_draft.specs.Reading.{plan_of}
use Rattle.line_report.specs.Reading.{journal_of}
use Rattle.script_text.specs.Scripts.{script_of}
use Rattle.script_text.specs.declared.script.Script.{Script}
use Rattle.desk_reports.specs.Judgements.{case_told}
use Rattle.desk_reports.specs.SingleLines.{token_script_told}
use Rattle.text_fetch.specs.Runs.{count_told, run_told, scripts_told}
use Rattle.token_text.specs.Scripts.{token_script_of}
use Rattle.text_fetch.specs.FromTexts.{AreTold, Held, FromTexts, Untold, Gives, Refuses, plan_told, read_told}
use Rattle.text_fetch.specs.FromTexts.{text_told, told_then}

-- no text that is needed is untold
abbrev pub IsTold : {A : Type 0} → FromTexts A → Type 0
IsTold Untold = ⊥
IsTold (Gives x) = Unit {0}
IsTold (Refuses n fault) = Unit {0}

told_read : {A : Type 0} (n : ℕ) (r : Result A Fault) → IsTold (read_told n r)
told_read n (Ok x) = tt
told_read n (Err fault) = tt

told_text : {A : Type 0} (n : ℕ) (read : List ℕ → Result A Fault) (o : Option (List ℕ)) → IsSome o
    → IsTold (text_told n read o)
told_text n read None h = absurd cc
told_text n read (Some bytes) h = told_read n (read bytes)

both_told : {A B : Type 0} (t : FromTexts A) (f : A → FromTexts B) → IsTold t → ((x : A) → IsTold (f x))
    → IsTold (told_then t f)
both_told Untold f h k = absurd h
both_told (Gives x) f h k = k x
both_told (Refuses n fault) f h k = tt

-- where the shelf tells the text of a plan, all is told that the plan needs
pub told_plan : (held : Held) (name : List ℕ) → AreTold held (name ∷ []) → IsTold (plan_told held name)
told_plan held name h = told_text 1 plan_of (held name) (All-head (λ (n : List ℕ). IsSome (held n)) name [] h)

-- where the shelf tells the text of a token script, all is told that the script needs
pub told_tokens : (held : Held) (name : List ℕ) → AreTold held (name ∷ []) → IsTold (token_script_told held name)
told_tokens held name h =
    told_text 1 token_script_of (held name) (All-head (λ (n : List ℕ). IsSome (held n)) name [] h)

told_count : (plan : PlanFields) (count : ℕ) → IsTold (count_told plan count)
told_count plan count = go (eqb count (length plan.boxes)) where
  go : (b : Bool)
      → IsTold {A = Unit {0}} (cond b (Gives tt) (Refuses 1 (record { line = 0; cause = causes.ScriptCount })))
  go true = tt
  go false = tt

told_scripts : (held : Held) (plan : PlanFields) (done : List Script) (names : List (List ℕ)) → AreTold held names
    → IsTold (scripts_told held plan done names)
told_scripts held plan done [] h = tt
told_scripts held plan done (name ∷ names) h =
    both_told (text_told (length done + 2) (script_of plan (length done)) (held name)) _
    (told_text (length done + 2) (script_of plan (length done)) (held name)
    (All-head (λ (n : List ℕ). IsSome (held n)) name names h))
    (λ script. told_scripts held plan (done ++ script ∷ []) names
    (All-tail (λ (n : List ℕ). IsSome (held n)) name names h))

-- where the shelf tells the texts of a plan and of scripts, all is told that their run needs
pub told_run : (held : Held) (name : List ℕ) (names : List (List ℕ)) → AreTold held (name ∷ names)
    → IsTold (run_told held name names)
told_run held name names h =
    both_told (text_told 1 plan_of (held name)) _
    (told_text 1 plan_of (held name) (All-head (λ (n : List ℕ). IsSome (held n)) name names h)) (λ plan.
    both_told (count_told plan (length names)) _ (told_count plan (length names)) (λ counted.
    both_told (scripts_told held plan [] names) _
    (told_scripts held plan [] names (All-tail (λ (n : List ℕ). IsSome (held n)) name names h)) (λ scripts. tt)))

-- where the shelf tells the texts of a plan and of a journal, all is told that their case needs
pub told_case : (held : Held) (name other : List ℕ) → AreTold held (name ∷ other ∷ [])
    → IsTold (case_told held name other)
told_case held name other h =
    let rest : AreTold held (other ∷ []) = All-tail (λ (n : List ℕ). IsSome (held n)) name (other ∷ []) h in
    both_told (text_told 1 plan_of (held name)) _
    (told_text 1 plan_of (held name) (All-head (λ (n : List ℕ). IsSome (held n)) name (other ∷ []) h)) (λ plan.
    both_told (text_told 2 (journal_of plan) (held other)) _
    (told_text 2 (journal_of plan) (held other) (All-head (λ (n : List ℕ). IsSome (held n)) other [] rest))
    (λ entries. tt))
