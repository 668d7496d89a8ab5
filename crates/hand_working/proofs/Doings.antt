-- What a man has done, call by call.
use Rattle.std.proofs.Common.{◌≡◌, ℕ, ◌<◌, List, [], ◌∷◌, ◌++◌, All, Some, None, Option, IfSome, length, max}
use Rattle.std.proofs.Common.{refl, ap, sym, subst, ◌∙◌, arith}
use Rattle.std.specs.Option.{option_to_list, unwrap_or}
use Rattle.std.proofs.lemmas.List.Elements.{All-push, All-head, All-nil, All-tail, All-cons}
use Rattle.line_plan.specs.Plans.{PlanFields}
use Rattle.line_law.specs.declared.call.Call.{Call}
use Rattle.line_law.specs.Known.{KnowsCall, moments_of}
use Rattle.line_law.specs.Serial.{AreCalls}
use Rattle.line_law.proofs.Sides.{known_parts}
use Rattle.box_session.specs.Sessions.{SessionFields, TakesBack, last_moment}
use Rattle.box_session.proofs.SoFar.{last_more}
use Rattle.hand_working.proofs.Days.{last_known}
use Rattle.hand_working.specs.Duties.{AreDoings, Doings, last_or, taken_back, with_made, without_last}

-- the last of a list goes
pub last_gone : {A : Type 0} (xs : List A) (x : A) → without_last (xs ++ x ∷ []) ≡ xs
last_gone [] x = refl
last_gone (y ∷ []) x = refl
last_gone (y ∷ (z ∷ zs)) x = ap (◌∷◌ y) (last_gone (z ∷ zs) x)

-- nothing is in a list without a length
none_there : {A : Type 0} (xs : List A) → length xs ≡ 0 → xs ≡ []
none_there [] e = refl
none_there (x ∷ xs) e = absurd cc

-- all but the last of a list are what stays when its last is taken
pub stays_but_last : {A : Type 0} (old new : List A) (taken : Option A) (count : ℕ) → old ≡ new ++ option_to_list taken
    → length new ≡ count → (taken ≡ None → count ≡ 0) → new ≡ without_last old
stays_but_last {A = A} old new None count same few none =
    let empty : new ≡ [] = none_there new (few ∙ none refl) in
    empty ∙ sym (ap (λ (xs : List A). without_last xs)
    (same ∙ ap (λ (xs : List A). xs ++ []) empty))
stays_but_last {A = A} old new (Some x) count same few none =
    sym (ap (λ (xs : List A). without_last xs) same ∙ last_gone new x)

-- the last of moments stands at their end
pub last_there : (other : ℕ) (moments : List ℕ) (moment : ℕ) → last_or other (moments ++ moment ∷ []) ≡ moment
last_there other [] moment = refl
last_there other (first ∷ moments) moment = last_there first moments moment

-- the last of moments is what is taken, if there is one
pub taken_last : (other : ℕ) (old new : List ℕ) (taken : Option ℕ) (count : ℕ) → old ≡ new ++ option_to_list taken
    → length new ≡ count → (taken ≡ None → count ≡ 0) → unwrap_or taken other ≡ last_or other old
taken_last other old new None count same few none =
    let empty : new ≡ [] = none_there new (few ∙ none refl) in
    sym (ap (λ (xs : List ℕ). last_or other xs) (same ∙ ap (λ (xs : List ℕ). xs ++ []) empty))
taken_last other old new (Some moment) count same few none =
    sym (ap (λ (xs : List ℕ). last_or other xs) same ∙ last_there other new moment)

-- the last of moments of a day is one of the day
last_of_day : (many other : ℕ) (moments : List ℕ) → other < many → All (λ moment. moment < many) moments
    → last_or other moments < many
last_of_day many other [] lt all = lt
last_of_day many other (moment ∷ moments) lt all =
    last_of_day many moment moments (All-head (λ n. n < many) moment moments all)
    (All-tail (λ n. n < many) moment moments all)

-- all but the last of moments of a day are moments of the day
but_last_of_day : (many : ℕ) (moments : List ℕ) → All (λ moment. moment < many) moments
    → All (λ moment. moment < many) (without_last moments)
but_last_of_day many [] all = All-nil (λ n. n < many)
but_last_of_day many (moment ∷ []) all = All-nil (λ n. n < many)
but_last_of_day many (moment ∷ (next ∷ moments)) all =
    All-cons (λ n. n < many) moment (without_last (next ∷ moments))
    (All-head (λ n. n < many) moment (next ∷ moments) all)
    (but_last_of_day many (next ∷ moments) (All-tail (λ n. n < many) moment (next ∷ moments) all))

-- a call that his box knows, not before his clock, may be made
pub made_are : (plan : PlanFields) (b : ℕ) (doings : Doings) (call : Call) → AreDoings plan.version doings
    → KnowsCall plan b call → AreDoings plan.version (with_made doings call)
made_are plan b doings call h known = record {
  later = (let e = last_more doings.calls call in omega (arith, e));
  day = (known_parts plan b call known).moment;
  days = All-push (λ (moment : ℕ). moment < moments_of plan.version) doings.befores doings.moment h.days h.day;
}

-- the last call may be taken back
pub taken_are : (version : ℕ) (doings now : Doings) → AreDoings version doings
    → last_moment now.calls < moments_of version → now ≡ taken_back doings → AreDoings version now
taken_are version doings now h lt same =
    let back = taken_back doings in
    let low : last_moment back.calls < moments_of version =
    subst (λ (d : Doings). last_moment d.calls < moments_of version) same lt
    in
    let last = last_of_day (moments_of version) doings.moment doings.befores h.day h.days in
    subst (AreDoings version) (sym same) (record {
      later = omega arith;
      day = omega (arith, low, last);
      days = but_last_of_day (moments_of version) doings.befores h.days;
    })

-- his calls when a session takes the last one back
pub undone_calls : (old new : SessionFields) (undone : Option Call) → TakesBack old new undone
    → new.calls ≡ without_last old.calls
undone_calls old new None h =
    ap (λ (s : SessionFields). s.calls) h.1 ∙ h.0 ∙ sym (ap (λ (calls : List Call). without_last calls) h.0)
undone_calls old new (Some call) h =
    sym (ap (λ (s : SessionFields). without_last s.calls) h.0 ∙ last_gone new.calls call)

-- the plan stays
pub undone_plan : (old new : SessionFields) (undone : Option Call) → TakesBack old new undone → new.plan ≡ old.plan
undone_plan old new None h = ap (λ (s : SessionFields). s.plan) h.1
undone_plan old new (Some call) h = sym (ap (λ (s : SessionFields). s.plan) h.0)

-- what he has done then
pub taken_same : (doings now : Doings) → now.calls ≡ without_last doings.calls
    → now.befores ≡ without_last doings.befores
    → now.moment ≡ max (last_or doings.moment doings.befores) (last_moment now.calls) → now ≡ taken_back doings
taken_same doings now calls befores moment = rw (moment, befores, calls) refl

-- a call that is taken back is one that his box knows
pub undone_known : (plan : PlanFields) (b : ℕ) (old new : SessionFields) (undone : Option Call)
    → AreCalls plan b 0 old.calls → TakesBack old new undone → IfSome undone (KnowsCall plan b)
undone_known plan b old new None may h = tt
undone_known plan b old new (Some call) may h =
    last_known plan b 0 new.calls call
    (subst (λ (calls : List Call). AreCalls plan b 0 calls) (ap (λ (s : SessionFields). s.calls) h.0) may)
