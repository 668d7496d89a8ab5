-- What is told of a plan of so many boxes, and of what is told behind it.
use Rattle.std.proofs.Common.{◌≡◌, ◌≢◌, ℕ, length, refl, subst, sym, inl, inr}
use Rattle.std.proofs.lemmas.Bool.Decides.{eqb_tells}
use Rattle.rail_text.specs.Gives.{Fault}
use Rattle.rail_text.specs.declared.cause.Cause.TheVariants as causes
use Rattle.line_plan.specs.Plans.{PlanFields}
use Rattle.text_fetch.specs.FromTexts.{FromTexts, Untold, Gives, Refuses, IsGiven, IsRefused, StopsAt, told_then}
use Rattle.text_fetch.specs.declared.stop.Stop.{Stop}
use Rattle.text_fetch.specs.declared.stop.Stop.TheVariants as stops
use Rattle.text_fetch.specs.Runs.{count_told}
use Rattle.text_fetch.proofs.Gathering.{given_then, stops_first, stops_then}

-- a plan that is told, if it has so many boxes
abbrev pub counted : FromTexts PlanFields → ℕ → FromTexts PlanFields
counted told n = told_then told (λ plan. told_then (count_told plan n) (λ done. Gives plan))

right : (plan : PlanFields) (n : ℕ) → length plan.boxes ≡ n → IsGiven tt (count_told plan n)
right plan n e = elim (eqb_tells n (length plan.boxes)) [
  | inl same ↦ rw same.0 refl
  | inr differ ↦ absurd (differ.1 (sym e))
]

wrong : (plan : PlanFields) (n : ℕ) → length plan.boxes ≢ n
    → StopsAt (stops.Refused 1 0 causes.ScriptCount) (count_told plan n)
wrong plan n e = elim (eqb_tells n (length plan.boxes)) [
  | inl same ↦ absurd (e (sym same.1))
  | inr differ ↦ rw differ.0 (refl, refl)
]

pub counted_right : (told : FromTexts PlanFields) (n : ℕ) (plan : PlanFields) → IsGiven plan told
    → length plan.boxes ≡ n → IsGiven plan (counted told n)
counted_right told n plan given e = given_then plan plan told _ given
    (given_then tt plan (count_told plan n) _ (right plan n e) refl)

pub counted_wrong : (told : FromTexts PlanFields) (n : ℕ) (plan : PlanFields) → IsGiven plan told
    → length plan.boxes ≢ n → IsRefused 1 (record { line = 0; cause = causes.ScriptCount }) (counted told n)
counted_wrong told n plan given e =
    let stop : Stop = stops.Refused 1 0 causes.ScriptCount in
    stops_then plan stop told _ given (stops_first stop (count_told plan n) _ (wrong plan n e))

pub counted_stops : (told : FromTexts PlanFields) (n : ℕ) (stop : Stop) → StopsAt stop told
    → StopsAt stop (counted told n)
counted_stops told n stop h = stops_first stop told _ h

-- ---- what is told behind it

module _ {B : Type 0} (n : ℕ) (more : PlanFields → FromTexts B) where
  abbrev then_more : FromTexts PlanFields → FromTexts B
  then_more told = told_then told (λ plan. told_then (count_told plan n) (λ done. more plan))

  given_one : (plan : PlanFields) (x : B) (p : PlanFields) (c : FromTexts (Unit {0}))
      → IsGiven plan (told_then c (λ done. Gives p)) → IsGiven x (more plan)
      → IsGiven x (told_then c (λ done. more p))
  given_one plan x p Untold h k = tt
  given_one plan x p (Gives done) h k = subst (λ (q : PlanFields). IsGiven x (more q)) (sym h) k
  given_one plan x p (Refuses m fault) h k = absurd h

  pub given_more : (told : FromTexts PlanFields) (plan : PlanFields) (x : B) → IsGiven plan (counted told n)
      → IsGiven x (more plan) → IsGiven x (then_more told)
  given_more Untold plan x h k = tt
  given_more (Gives p) plan x h k = given_one plan x p (count_told p n) h k
  given_more (Refuses m fault) plan x h k = absurd h

  stops_one : (plan : PlanFields) (stop : Stop) (p : PlanFields) (c : FromTexts (Unit {0}))
      → IsGiven plan (told_then c (λ done. Gives p)) → StopsAt stop (more plan)
      → StopsAt stop (told_then c (λ done. more p))
  stops_one plan (stops.Refused text line cause) p Untold h k = tt
  stops_one plan (stops.Refused text line cause) p (Gives done) h k =
      subst (λ (q : PlanFields). IsRefused text (record { line = line; cause = cause }) (more q)) (sym h) k
  stops_one plan (stops.Refused text line cause) p (Refuses m fault) h k = absurd h
  stops_one plan stops.ShelfFault p c h k = tt
  stops_one plan stops.NoMemory p c h k = tt

  untold_stops : (stop : Stop) → StopsAt stop (then_more Untold)
  untold_stops (stops.Refused text line cause) = tt
  untold_stops stops.ShelfFault = tt
  untold_stops stops.NoMemory = tt

  pub stops_more : (told : FromTexts PlanFields) (plan : PlanFields) (stop : Stop) → IsGiven plan (counted told n)
      → StopsAt stop (more plan) → StopsAt stop (then_more told)
  stops_more Untold plan stop h k = untold_stops stop
  stops_more (Gives p) plan stop h k = stops_one plan stop p (count_told p n) h k
  stops_more (Refuses m fault) plan stop h k = absurd h

  refused_one : (text : ℕ) (fault : Fault) (p : PlanFields) (c : FromTexts (Unit {0}))
      → IsRefused text fault (told_then c (λ done. Gives p)) → IsRefused text fault (told_then c (λ done. more p))
  refused_one text fault p Untold h = tt
  refused_one text fault p (Gives done) h = absurd h
  refused_one text fault p (Refuses m other) h = h

  refused_before : (text : ℕ) (fault : Fault) (told : FromTexts PlanFields) → IsRefused text fault (counted told n)
      → IsRefused text fault (then_more told)
  refused_before text fault Untold h = tt
  refused_before text fault (Gives p) h = refused_one text fault p (count_told p n) h
  refused_before text fault (Refuses m other) h = h

  pub stops_before : (told : FromTexts PlanFields) (stop : Stop) → StopsAt stop (counted told n)
      → StopsAt stop (then_more told)
  stops_before told (stops.Refused text line cause) h =
      refused_before text (record { line = line; cause = cause }) told h
  stops_before told stops.ShelfFault h = tt
  stops_before told stops.NoMemory h = tt
