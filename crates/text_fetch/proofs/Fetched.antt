-- A text that is fetched, and what reading it gives.
use Rattle.std.proofs.Common.{◌≡◌, ℕ, ◌+◌, List, take, Option, Some, None, Result, Ok, Err, IfSome, IsErrOf, refl, sym}
use Rattle.std.proofs.Common.{ap, ◌∙◌}
use Rattle.rail_text.specs.Gives.{Fault, FailsText}
use Rattle.rail_text.specs.declared.cause.ReadError.{ReadError}
use Rattle.rail_text.specs.declared.cause.ReadError.TheVariants as errors
use Rattle.text_fetch.specs.declared.stop.Stop.{Stop}
use Rattle.text_fetch.specs.declared.stop.Stop.TheVariants as stops
use Rattle.text_fetch.specs.FromTexts.{text_told, IsGiven, IsRefused, StopsAt}
use Rattle.text_fetch.specs.Fetches.{IsStopOf}

-- reading looks at no more than these first bytes
abbrev pub LooksAt : {A : Type 0} → ℕ → (List ℕ → Result A Fault) → Type 0
LooksAt most read = (bytes : List ℕ) → read (take (most + 1) bytes) ≡ read bytes

-- what is read of as much as is fetched, where reading looks at no more, is what the whole text gives
pub fetched_given : {A : Type 0} (n most : ℕ) (read : List ℕ → Result A Fault) (o : Option (List ℕ)) (items : List ℕ)
    (x : A) → LooksAt most read → IfSome o (λ all. items ≡ take (most + 1) all) → read items ≡ Ok x
    → IsGiven x (text_told n read o)
fetched_given n most read None items x looks told e = tt
fetched_given n most read (Some all) items x looks told e = let same : read all ≡ Ok x =
    sym (looks all) ∙ ap read (sym told) ∙ e in rw same refl

-- where as much is fetched as reading looks at, what refuses it refuses the whole text
pub fetched_refused : {A : Type 0} (n most : ℕ) (read : List ℕ → Result A Fault) (o : Option (List ℕ)) (items : List ℕ)
    (fault : Fault) → LooksAt most read → IfSome o (λ all. items ≡ take (most + 1) all) → read items ≡ Err fault
    → IsRefused n fault (text_told n read o)
fetched_refused n most read None items fault looks told e = tt
fetched_refused n most read (Some all) items fault looks told e = let same : read all ≡ Err fault =
    sym (looks all) ∙ ap read (sym told) ∙ e in rw same (refl, refl)

-- where as much is fetched as reading looks at, what stops its reader stops the step, for that text
pub fetched_stops : {A : Type 0} (n most : ℕ) (read : List ℕ → Result A Fault) (o : Option (List ℕ)) (items : List ℕ)
    (error : ReadError) (stop : Stop) → LooksAt most read → IfSome o (λ all. items ≡ take (most + 1) all)
    → FailsText error (read items) → IsStopOf n error stop → StopsAt stop (text_told n read o)
fetched_stops n most read o items (errors.Refused line cause) stop looks told e is =
    rw is (fetched_refused n most read o items (record { line = line; cause = cause }) looks told e)
fetched_stops n most read o items errors.NoMemory stop looks told e is = rw is tt

-- a reader stops at no fault of the shelf
pub never_fetched : {A : Type 0} (text : ℕ) (error : ReadError) (stop : Stop) → IsStopOf text error stop
    → IsErrOf {T = A} (Err stop) stops.ShelfFault → ⊥
never_fetched text (errors.Refused line cause) stop is e = absurd cc
never_fetched text errors.NoMemory stop is e = absurd cc
