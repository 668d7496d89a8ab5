-- The plan, the number of scripts, and the scripts.
use Rattle.std.proofs.Common.{◌≡◌, ◌≢◌, ℕ, suc, ◌≤◌, List, [], ◌∷◌, length, take, get_or, Err, IsErrOf, refl, subst}
use Rattle.std.proofs.Common.{arith, inl, inr}
use Rattle.std.proofs.lemmas.Bool.Decides.{eqb_tells}
use Rattle.rail_text.specs.Causes.{Rose}
use Rattle.rail_text.specs.declared.cause.Cause.TheVariants as causes
use Rattle.line_plan.specs.Plans.{PlanFields}
use Rattle.plan_draft.specs.Reading.{plan_of}
use Rattle.script_text.specs.declared.script.Script.{Script}
use Rattle.text_fetch.specs.declared.stop.Stop.{Stop}
use Rattle.text_fetch.specs.declared.stop.Stop.TheVariants as stops
use Rattle.text_fetch.specs.Runs.{Run, HasScriptFault, count_told, run_told, run_told_before, scripts_told}
use Rattle.text_fetch.specs.FromTexts.{HasShelfFault, Held, FromTexts, Untold, Gives, Refuses, told_then, text_told}
use Rattle.text_fetch.specs.FromTexts.{IsGiven, IsNotRefused, StopsAt}
use Rattle.text_fetch.proofs.Gathering.{given_then, stops_then, stops_first, free_then}

counted_right : (plan : PlanFields) (n : ℕ) → n ≡ length plan.boxes → IsGiven tt (count_told plan n)
counted_right plan n e = elim (eqb_tells n (length plan.boxes)) [
  | inl same ↦ rw same.0 refl
  | inr differ ↦ absurd (differ.1 e)
]

counted_wrong : (plan : PlanFields) (n : ℕ) → n ≢ length plan.boxes
    → StopsAt (stops.Refused 1 0 causes.ScriptCount) (count_told plan n)
counted_wrong plan n e = elim (eqb_tells n (length plan.boxes)) [
  | inl same ↦ absurd (e same.1)
  | inr differ ↦ rw differ.0 (refl, refl)
]

-- ---- what is told of the inputs

-- where the plan is given and a script for each box, both are what a run's texts give
pub inputs_given : (held other : Held) (plan_name : List ℕ) (names : List (List ℕ)) (plan : PlanFields)
    (scripts : List Script) → other ≡ held → IsGiven plan (text_told 1 plan_of (held plan_name))
    → length names ≡ length plan.boxes
    → IsGiven scripts (scripts_told other plan [] names)
    → IsGiven (record { plan = plan; scripts = scripts }) (run_told held plan_name names)
inputs_given held other plan_name names plan scripts same h count k =
    let run : Run = record { plan = plan; scripts = scripts } in
    let read = subst (λ (x : Held). IsGiven scripts (scripts_told x plan [] names)) same k in
    given_then plan run (text_told 1 plan_of (held plan_name)) _ h
    (given_then tt run (count_told plan (length names)) _ (counted_right plan (length names) count)
    (given_then scripts run (scripts_told held plan [] names) _ read refl))

-- where the plan is given and there is a script for each box, what stops at the scripts stops the run
pub inputs_stop : (held other : Held) (plan_name : List ℕ) (names : List (List ℕ)) (plan : PlanFields) (stop : Stop)
    → other ≡ held → IsGiven plan (text_told 1 plan_of (held plan_name)) → length names ≡ length plan.boxes
    → StopsAt stop (scripts_told other plan [] names) → StopsAt stop (run_told held plan_name names)
inputs_stop held other plan_name names plan stop same h count k =
    let read = subst (λ (x : Held). StopsAt stop (scripts_told x plan [] names)) same k in
    stops_then plan stop (text_told 1 plan_of (held plan_name)) _ h
    (stops_then tt stop (count_told plan (length names)) _ (counted_right plan (length names) count)
    (stops_first stop (scripts_told held plan [] names) _ read))

abbrev done : FromTexts (Unit {0})
done = Gives tt

free_end : {A : Type 0} (t : FromTexts A) → IsNotRefused t → IsNotRefused (told_then t (λ x. done))
free_end Untold h = tt
free_end (Gives y) h = tt
free_end (Refuses n fault) h = absurd h

-- a count that rose from a later value rose from an earlier one too
pub rose_before : (a b n : ℕ) → a ≤ b → Rose b n → Rose a n
rose_before a b n le h = omega arith

-- where the plan is given and the shelf fails at a script, with no script before it refused, that is the run's
-- fault of the shelf
pub inputs_fault : (held other : Held) (before mid now : List ℕ → ℕ) (plan_name : List ℕ) (names : List (List ℕ))
    (plan : PlanFields) → other ≡ held → ((n : List ℕ) → before n ≤ mid n)
    → IsGiven plan (text_told 1 plan_of (held plan_name)) → length names ≡ length plan.boxes
    → HasScriptFault other mid now plan names
    → HasShelfFault before now (plan_name ∷ names) (run_told_before held plan_name names)
inputs_fault held other before mid now plan_name names plan same later h count fault =
    let name : List ℕ = get_or names fault.place [] in
    let free = subst (λ (x : Held). IsNotRefused (scripts_told x plan [] (take fault.place names))) same fault.free in
    record {
      place = suc fault.place;
      within = omega (arith, fault.within);
      rose = rose_before (before name) (mid name) (now name) (later name) fault.rose;
      free = free_then plan (text_told 1 plan_of (held plan_name)) _ h
          (free_then tt (count_told plan (length names)) _ (counted_right plan (length names) count)
          (free_end (scripts_told held plan [] (take fault.place names)) free));
    }

-- a wrong number of scripts is refused, where the plan is given
pub inputs_miscounted : (held : Held) (plan_name : List ℕ) (names : List (List ℕ)) (plan : PlanFields)
    → IsGiven plan (text_told 1 plan_of (held plan_name)) → length names ≢ length plan.boxes
    → StopsAt (stops.Refused 1 0 causes.ScriptCount) (run_told held plan_name names)
inputs_miscounted held plan_name names plan h count =
    let stop : Stop = stops.Refused 1 0 causes.ScriptCount in
    stops_then plan stop (text_told 1 plan_of (held plan_name)) _ h
    (stops_first stop (count_told plan (length names)) _ (counted_wrong plan (length names) count))

-- the same stop, of another step
pub same_stop : {A B : Type 0} (stop other : Stop) → IsErrOf {T = A} (Err stop) other → IsErrOf {T = B} (Err stop) other
same_stop stop other h = let same : stop ≡ other = cc in rw same refl
