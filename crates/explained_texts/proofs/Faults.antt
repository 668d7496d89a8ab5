-- Where a text can't be had, a count of the shelf rose, and no text before it is refused.
use Rattle.std.proofs.Common.{◌≡◌, ℕ, ◌<◌, ◌≤◌, List, [], ◌∷◌, length, map, get_or, arith, inl, inr}
use Rattle.std.proofs.Common.{subst}
use Rattle.std.proofs.lemmas.Bool.Decides.{eqb_tells}
use Rattle.std.proofs.lemmas.List.{length-map}
use Rattle.std.specs.Borrow.{Bor}
use Rattle.rail_text.specs.Causes.{Rose}
use Rattle.line_plan.specs.Plans.{PlanFields}
use Rattle.script_text.specs.declared.script.Script.{Script}
use Rattle.text_fetch.specs.FromTexts.{FromTexts, Untold, Gives, Refuses, HasShelfFault, Held, IsGiven, plan_told}
use Rattle.text_fetch.specs.FromTexts.{told_then}
use Rattle.text_fetch.specs.Runs.{HasScriptFault, count_told, run_told_before, scripts_told}
use Rattle.text_fetch.proofs.Gathering.{AreRead, given_free, name_at}
use Rattle.text_fetch.proofs.RunInputs.{inputs_fault, rose_before}
use Rattle.explained_texts.specs.Troubles.{IfUntaken, IsExplained}
use Rattle.explained_texts.specs.declared.trouble.Trouble.{Trouble}
use Rattle.explained_texts.specs.declared.trouble.Trouble.TheVariants as troubles
use Rattle.explained_texts.proofs.Onward.{counted}

-- a text that is read is had
pub read_is_had : (n : ℕ) (name bytes : List ℕ) (trouble : Trouble) (P : Type 0) → IsExplained n name bytes trouble
    → IfUntaken trouble P
read_is_had n name bytes (troubles.Untaken line) P h = absurd h
read_is_had n name bytes (troubles.Refused text line cause told) P h = tt
read_is_had n name bytes troubles.NoMemory P h = tt

untaken_then : (trouble : Trouble) (P Q : Type 0) → (P → Q) → IfUntaken trouble P → IfUntaken trouble Q
untaken_then (troubles.Untaken line) P Q f h = f h
untaken_then (troubles.Refused text line cause told) P Q f h = tt
untaken_then troubles.NoMemory P Q f h = tt

-- the next script can't be had
pub script_fault : (held : Held) (before mid now : List ℕ → ℕ) (plan : PlanFields) (xs : List (Bor (List ℕ))) (i : ℕ)
    (none : Bor (List ℕ)) (done : List Script) (trouble : Trouble) → ((n : List ℕ) → before n ≤ mid n) → i < length xs
    → AreRead held plan (map (λ name. name.now) xs) i done
    → IfUntaken trouble (Rose (mid (get_or xs i none).now) (now (get_or xs i none).now))
    → IfUntaken trouble (HasScriptFault held before now plan (map (λ name. name.now) xs))
script_fault held before mid now plan xs i none done trouble later lt read h =
    let names = map (λ (name : Bor (List ℕ)). name.now) xs in
    let name : List ℕ = get_or names i [] in
    untaken_then trouble _ _
    (λ rose. record {
      place = i;
      within = omega (arith, lt, length-map xs (λ (name : Bor (List ℕ)). name.now));
      rose = rose_before (before name) (mid name) (now name) (later name)
          (subst (λ (n : List ℕ). Rose (mid n) (now n)) (name_at xs i none lt) rose);
      free = given_free done (scripts_told held plan [] _) read.given;
    }) h

-- ---- a run

of_counted : (p plan : PlanFields) (n : ℕ) → IsGiven plan (told_then (count_told p n) (λ done. Gives p)) → p ≡ plan
of_counted p plan n h = elim (eqb_tells n (length p.boxes)) [
  | inl same ↦ rw same.0 at h
  | inr differ ↦ absurd (rw differ.0 at h)
]

-- a plan of so many boxes is the plan that is told
plan_given : (told : FromTexts PlanFields) (n : ℕ) (plan : PlanFields) → IsGiven plan (counted told n)
    → IsGiven plan told
plan_given Untold n plan h = tt
plan_given (Gives p) n plan h = of_counted p plan n h
plan_given (Refuses m fault) n plan h = absurd h

-- the plan can't be had
pub plan_fault : (held : Held) (before now : List ℕ → ℕ) (plan_name : List ℕ) (names : List (List ℕ))
    (trouble : Trouble) → IfUntaken trouble (Rose (before plan_name) (now plan_name))
    → IfUntaken trouble (HasShelfFault before now (plan_name ∷ names) (run_told_before held plan_name names))
plan_fault held before now plan_name names trouble h =
    untaken_then trouble _ _
    (λ rose. record { place = 0; within = omega arith; rose = rose; free = tt }) h

-- a script can't be had
pub run_fault : (held other : Held) (before mid now : List ℕ → ℕ) (plan_name : List ℕ) (names : List (List ℕ))
    (plan : PlanFields) (n : ℕ) (trouble : Trouble) → other ≡ held → ((k : List ℕ) → before k ≤ mid k)
    → IsGiven plan (counted (plan_told held plan_name) n) → length names ≡ length plan.boxes
    → IfUntaken trouble (HasScriptFault other mid now plan names)
    → IfUntaken trouble (HasShelfFault before now (plan_name ∷ names) (run_told_before held plan_name names))
run_fault held other before mid now plan_name names plan n trouble same later given count h =
    untaken_then trouble _ _
    (λ fault. inputs_fault held other before mid now plan_name names plan same later
    (plan_given (plan_told held plan_name) n plan given) count fault)
    h
