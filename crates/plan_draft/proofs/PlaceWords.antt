-- Places that are named one behind the other.
use Rattle.std.proofs.Common.{◌≡◌, ℕ, zero, suc, ◌+◌, ◌<◌, List, [], ◌∷◌, ◌++◌, length, drop, Result, Ok, Err, refl}
use Rattle.std.proofs.Common.{sym, ap, ◌∙◌, arith}
use Rattle.std.specs.Result.{IsErr, IsErrAnd}
use Rattle.rail_text.specs.Gives.{◌>>=◌, GivesCause}
use Rattle.rail_text.specs.declared.cause.Cause.{Cause}
use Rattle.plan_draft.specs.LineWords.{word, number_in_names, places_onto}

drop_next : (ws : List (List ℕ)) (i : ℕ) → i < length ws → drop i ws ≡ word i ws ∷ drop (i + 1) ws
drop_next [] i lt = absurd (omega arith)
drop_next (w ∷ ws) zero lt = refl
drop_next (w ∷ ws) (suc i) lt =
    let e : suc i + 1 ≡ suc (i + 1) = omega arith in rw e (drop_next ws i (omega (arith, lt)))

places_step : (names ws : List (List ℕ)) (front : List ℕ) (i : ℕ) → i < length ws
    → places_onto names front (drop i ws) ≡ number_in_names names (word i ws)
    >>= (λ place. places_onto names (front ++ place ∷ []) (drop (i + 1) ws))
unfolding places_onto
places_step names ws front i lt = ap (places_onto names front) (drop_next ws i lt)

-- the places of the words are the same with the place of the next word read
pub places_next : (names ws : List (List ℕ)) (front more text : List ℕ) (i place : ℕ) (read : Result (List ℕ) Cause)
    → i < length ws → places_onto names front (drop i ws) ≡ read → more ≡ front ++ place ∷ [] → text ≡ word i ws
    → Ok place ≡ number_in_names names text → places_onto names more (drop (i + 1) ws) ≡ read
places_next names ws front more text i place read lt inv m t e =
    let own : number_in_names names (word i ws) ≡ Ok place = ap (number_in_names names) (sym t) ∙ sym e in
    let same : places_onto names front (drop i ws)
    ≡ places_onto names (front ++ place ∷ []) (drop (i + 1) ws) =
    places_step names ws front i lt
    ∙ ap (λ (r : Result ℕ Cause). r >>= (λ (p : ℕ). places_onto names (front ++ p ∷ []) (drop (i + 1) ws))) own in
    rw m (sym same ∙ inv)

-- a word that names no place is the fault of the whole
pub places_fail : (names ws : List (List ℕ)) (front text : List ℕ) (i : ℕ)
    (read : Result (List ℕ) Cause) (cause : Cause)
    → i < length ws → places_onto names front (drop i ws) ≡ read → text ≡ word i ws
    → Err cause ≡ number_in_names names text → read ≡ Err cause
places_fail names ws front text i read cause lt inv t e =
    let own : number_in_names names (word i ws) ≡ Err cause = ap (number_in_names names) (sym t) ∙ sym e in
    sym inv ∙ places_step names ws front i lt
    ∙ ap (λ (r : Result ℕ Cause). r >>= (λ (p : ℕ). places_onto names (front ++ p ∷ []) (drop (i + 1) ws))) own

-- a reader that stops for a cause gives it
pub stopped : {X Y : Type 0} (view : X → Y) (r : Result X Cause) (read : Result Y Cause) (cause : Cause) → IsErr r
    → IsErrAnd r (λ e. e ≡ cause) → read ≡ Err cause → GivesCause view r read
stopped view (Ok x) read cause is own e = absurd cc
stopped view (Err c) read cause is own e = rw own e
