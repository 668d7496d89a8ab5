-- Each row stands once at its subject, and once at its object.
use Rattle.std.proofs.Common.{◌≡◌, ◌≢◌, ℕ, zero, suc, ◌+◌, ◌<◌, ◌≤◌, Bool, true, false, ◌==◌, List, [], ◌∷◌, length, refl}
use Rattle.std.proofs.Common.{sym, ap, ◌∙◌, subst, arith, if◌then◌else◌}
use Rattle.std.specs.Prelude.{filter, slice_index_or}
use Rattle.std.proofs.lemmas.Bool.Decides.{nat_tests}
use Rattle.std.proofs.lemmas.List.{length-map}
use Rattle.locking_table.specs.declared.row.Row.{Row}
use Rattle.row_texts.specs.Places.{once, places_from}
use Rattle.locking_sheet.specs.Sheets.{IsSheet, SheetFields, objects_of, places_at, row_at, subjects_of}
use Rattle.locking_sheet.proofs.InOrder.{subject_at}

alike : (a : ℕ) → (a == a) ≡ true
alike a = grind (arith, nat_tests)

apart : (a b : ℕ) → a ≢ b → (a == b) ≡ false
apart a b h = grind (arith, nat_tests)

passed_if : (place from : ℕ) (t : Bool) (ps : List ℕ) → from ≢ place
    → filter (λ p. p == place) (if t then from ∷ ps else ps) ≡ filter (λ p. p == place) ps
passed_if place from true ps h = let test = apart from place h in rw test refl
passed_if place from false ps h = refl

behind : (place from key : ℕ) (ks : List ℕ) → place < from → filter (λ p. p == place) (places_from from key ks) ≡ []
behind place from key [] past = refl
behind place from key (k ∷ ks) past =
    passed_if place from (k == key) (places_from (from + 1) key ks) (λ e. omega (arith, e, past))
    ∙ behind place (from + 1) key ks (omega (arith, past))

met_if : (place : ℕ) (t : Bool) (ps : List ℕ) → filter (λ p. p == place) ps ≡ []
    → filter (λ p. p == place) (if t then place ∷ ps else ps) ≡ once t place
met_if place true ps none = let test = alike place in rw test (ap (λ (l : List ℕ). place ∷ l) none)
met_if place false ps none = none

-- a place stands once among those of its key, and not among others
among : (step from key : ℕ) (ks : List ℕ) → step < length ks
    → filter (λ p. p == (from + step)) (places_from from key ks) ≡ once (slice_index_or ks step 0 == key) (from + step)
among step from key [] less = absurd (omega (arith, less))
among zero from key (k ∷ ks) less =
    let here : from + 0 ≡ from = omega arith in
    subst (λ (place : ℕ). filter (λ p. p == place) (places_from from key (k ∷ ks)) ≡ once (k == key) place) (sym here)
    (met_if from (k == key) (places_from (from + 1) key ks) (behind from (from + 1) key ks (omega arith)))
among (suc step) from key (k ∷ ks) less =
    let next : from + 1 + step ≡ from + suc step = omega arith in
    passed_if (from + suc step) from (k == key) (places_from (from + 1) key ks) (λ e. omega (arith, e))
    ∙ subst (λ (place : ℕ). filter (λ p. p == place) (places_from (from + 1) key ks)
    ≡ once (slice_index_or ks step 0 == key) place) next (among step (from + 1) key ks (omega (arith, less)))

from_start : (place key : ℕ) (ks : List ℕ) → place < length ks
    → filter (λ p. p == place) (places_from 0 key ks) ≡ once (slice_index_or ks place 0 == key) place
from_start place key ks less =
    let none : 0 + place ≡ place = omega arith in
    subst (λ (p : ℕ). filter (λ q. q == p) (places_from 0 key ks) ≡ once (slice_index_or ks place 0 == key) p) none
    (among place 0 key ks less)

object_at : (rows : List Row) (place : ℕ) → place < length rows
    → slice_index_or (objects_of rows) place 0 ≡ (row_at rows place).object
object_at [] place less = absurd (omega (arith, less))
object_at (row ∷ rows) zero less = refl
object_at (row ∷ rows) (suc place) less = object_at rows place (omega (arith, less))

module _ (rows : List Row) (sheet : SheetFields) (place lever : ℕ) (is : IsSheet rows sheet) (less : place < length rows)
    (high : lever ≤ 120) where
  pub own_once : filter (λ p. p == place) (places_at sheet.own lever)
      ≡ once ((row_at rows place).subject == lever) place
  own_once =
      let long = length-map rows (λ (row : Row). row.subject) in
      ap (λ (ps : List ℕ). filter (λ p. p == place) ps) (is.own.each lever high)
      ∙ (from_start place lever (subjects_of rows) (omega (arith, long, less))
      ∙ ap (λ (n : ℕ). once (n == lever) place) (subject_at rows place less))

  pub converse_once : filter (λ p. p == place) (places_at sheet.converse lever)
      ≡ once ((row_at rows place).object == lever) place
  converse_once =
      let long = length-map rows (λ (row : Row). row.object) in
      ap (λ (ps : List ℕ). filter (λ p. p == place) ps) (is.converse.each lever high)
      ∙ (from_start place lever (objects_of rows) (omega (arith, long, less))
      ∙ ap (λ (n : ℕ). once (n == lever) place) (object_at rows place less))

pub ruleset once_rules = (own_once, converse_once)
