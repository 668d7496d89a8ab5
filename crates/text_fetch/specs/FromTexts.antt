-- What comes of texts that a shelf may tell.
use Rattle.std.specs.Prelude.{◌≡◌, ℕ, ◌<◌, List, [], length, get_or, map, All, Option, Some, None, IsSome}
use Rattle.std.specs.Prelude.{Result, Ok, Err}
use Rattle.std.specs.Borrow.{Bor}
use Rattle.rail_text.specs.Causes.{Rose}
use Rattle.rail_text.specs.Gives.{Fault}
use Rattle.line_plan.specs.Plans.{PlanFields}
use Rattle.plan_draft.specs.Reading.{plan_of}
use Rattle.text_fetch.specs.declared.stop.Stop.{Stop}
use Rattle.text_fetch.specs.declared.stop.Stop.TheVariants as stops

-- the bytes of borrowed names
abbrev pub named : List (Bor (List ℕ)) → List (List ℕ)
named names = map (λ name. name.now) names

-- what a shelf holds, by name, where it tells it
abbrev pub Held : Type 0
Held = List ℕ → Option (List ℕ)

-- the shelf tells the text of each of these names
abbrev pub AreTold : Held → List (List ℕ) → Type 0
AreTold held names = All (λ name. IsSome (held name)) names

-- Untold: a text that is needed isn't told by the shelf; Gives: all are told, and this comes of them; Refuses: text n
-- has a fault
pub data FromTexts (A : Type 0) : Type 0 where
  Untold : FromTexts A
  Gives : A → FromTexts A
  Refuses : ℕ → Fault → FromTexts A

-- what is told, and then what comes of it
abbrev pub told_then : {A B : Type 0} → FromTexts A → (A → FromTexts B) → FromTexts B
told_then Untold more = Untold
told_then (Gives x) more = more x
told_then (Refuses text fault) more = Refuses text fault

-- what reading text n gives
abbrev pub read_told : {A : Type 0} → ℕ → Result A Fault → FromTexts A
read_told n (Ok x) = Gives x
read_told n (Err fault) = Refuses n fault

-- what text n gives, where the shelf tells it
abbrev pub text_told : {A : Type 0} → ℕ → (List ℕ → Result A Fault) → Option (List ℕ) → FromTexts A
text_told n read None = Untold
text_told n read (Some bytes) = read_told n (read bytes)

-- the plan that the first text of this name spells
abbrev pub plan_told : Held → List ℕ → FromTexts PlanFields
plan_told held name = text_told 1 plan_of (held name)

-- this is given, if the texts are told
abbrev pub IsGiven : {A : Type 0} → A → FromTexts A → Type 0
IsGiven x Untold = Unit {0}
IsGiven x (Gives y) = y ≡ x
IsGiven x (Refuses text fault) = ⊥

-- this is refused, if the texts are told
abbrev pub IsRefused : {A : Type 0} → ℕ → Fault → FromTexts A → Type 0
IsRefused n fault Untold = Unit {0}
IsRefused n fault (Gives y) = ⊥
IsRefused n fault (Refuses text other) = (text ≡ n) × (other ≡ fault)

-- nothing is refused, as far as the texts are told
abbrev pub IsNotRefused : {A : Type 0} → FromTexts A → Type 0
IsNotRefused Untold = Unit {0}
IsNotRefused (Gives y) = Unit {0}
IsNotRefused (Refuses text fault) = ⊥

-- a step stops for this: a refusal is the one that is told; a fault of the shelf and want of memory have causes of
-- their own
abbrev pub StopsAt : {A : Type 0} → Stop → FromTexts A → Type 0
StopsAt (stops.Refused text line cause) told = IsRefused text (record { line = line; cause = cause }) told
StopsAt stops.ShelfFault told = Unit {0}
StopsAt stops.NoMemory told = Unit {0}

-- a step makes what is told, or stops as is told
abbrev pub Makes : {X A : Type 0} → (X → A) → Result X Stop → FromTexts A → Type 0
Makes view (Ok x) told = IsGiven (view x) told
Makes view (Err stop) told = StopsAt stop told

-- of texts that are fetched in this order: the count of one of them rose, and nothing before its fetch is refused;
-- told_before says what is told before text k, from 0, is fetched
pub record HasShelfFault (before now : List ℕ → ℕ) (names : List (List ℕ)) (told_before : ℕ → FromTexts (Unit {0}))
    : Type 0 where
  pub place : ℕ
  pub within : place < length names
  pub rose : Rose (before (get_or names place [])) (now (get_or names place []))
  pub free : IsNotRefused (told_before place)
