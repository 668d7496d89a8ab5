-- Objects that are listed, one for each thing.
use Rattle.std.proofs.Common.{◌≡◌, ℕ, ◌+◌, ◌<◌, ◌≤◌, List, [], ◌∷◌, ◌++◌, All, length, drop, get_or}
use Rattle.std.proofs.Common.{arith, refl, sym, ap, subst, ◌∙◌}
use Rattle.std.specs.Prelude.{◌-◌, map, take}
use Rattle.std.proofs.lemmas.List.{drop_all, drop_more, length-drop, map-append, take_all}
use Rattle.std.proofs.lemmas.List.Elements.{All-drop, All-push}
use Rattle.serde_json.specs.Data.{Data}
use Rattle.serde_json.specs.View.{view}
use Rattle.serde_json.specs.declared.value.Value.{Value}
use Rattle.json_objects.specs.Texts.{IsPlain, most_levels}
use Rattle.json_objects.proofs.Plain.{member_plain, no_members_plain, object_plain}
use Rattle.entry_records.proofs.Plain.{entry_within}
use Rattle.look_records.proofs.Plain.{array_plain}
use Rattle.line_plan.specs.Plans.{PlanFields}
use Rattle.line_plan.specs.declared.frame.Lever.{Lever}
use Rattle.line_law.specs.declared.call.Entry.{Entry}
use Rattle.script_text.specs.Entries.{IsSpelled}
use Rattle.journal_records.specs.Objects.{IsEntryData}
use Rattle.line_service.specs.Lists.{IsMoveData, PutsEach, list_data}
use Rattle.line_service.specs.Services.{ServiceFields}
use Rattle.line_service.specs.declared.moves.Present.{Present}

-- ---- one behind the other

-- the object of a thing, and those of the things behind it, are those from its place on
pub puts_here : {X : Type 0} (Is : ℕ → X → Data → Type 0) (xs : List X) (at : ℕ) (none : X) (d : Data)
    (old new : List Data) → at < length xs → Is at (get_or xs at none) d
    → PutsEach Is (at + 1) (drop (at + 1) xs) (old ++ d ∷ []) new → PutsEach Is at (drop at xs) old new
puts_here Is xs at none d old new lt is more =
    subst (λ rest. PutsEach Is at rest old new) (sym (drop_more xs at none lt)) (d, is, more)

-- the same of a value that is put behind others
pub puts_value : {X : Type 0} (Is : ℕ → X → Data → Type 0) (xs : List X) (at : ℕ) (none : X) (value : Value)
    (old more : List Value) (new : List Data) → at < length xs → Is at (get_or xs at none) (view value)
    → more ≡ old ++ value ∷ [] → PutsEach Is (at + 1) (drop (at + 1) xs) (map view more) new
    → PutsEach Is at (drop at xs) (map view old) new
puts_value Is xs at none value old more new lt is longer rest =
    puts_here Is xs at none (view value) (map view old) new lt is
    (subst (λ front. PutsEach Is (at + 1) (drop (at + 1) xs) front new)
    (ap (map view) longer ∙ map-append view old (value ∷ [])) rest)

-- behind the last there are none
pub puts_none : {X : Type 0} (Is : ℕ → X → Data → Type 0) (xs : List X) (at : ℕ) (old : List Data) → length xs ≤ at
    → PutsEach Is at (drop at xs) old old
puts_none Is xs at old le = subst (λ rest. PutsEach Is at rest old old) (sym (drop_all at xs le)) refl

-- entries behind so many can be printed, as all can
pub behind_spelled : (plan : PlanFields) (es : List Entry) (n : ℕ) → All (IsSpelled plan) es
    → All (IsSpelled plan) (drop n es)
behind_spelled plan es n h = All-drop (IsSpelled plan) n es h

-- a slice from a place on is all that stands behind it
pub behind_whole : (es : List Entry) (n : ℕ) → take (length es - n) (drop n es) ≡ drop n es
behind_whole es n = let long = length-drop n es in take_all (length es - n) (drop n es) (omega (arith, long))

-- ---- plain values

-- a list of plain values under a key has a text that is read back
list_plain : (key : List ℕ) (ds : List Data) → All (IsPlain 125) ds → IsPlain most_levels (list_data key ds)
list_plain key ds h =
    object_plain 126 _ (member_plain 126 key _ _ (array_plain 125 ds h) (no_members_plain 126))

none_plain : All (IsPlain 125) []
none_plain k d lt = let no : ⊥ = omega (arith, lt) in absurd no

each_plain : {X : Type 0} (Is : ℕ → X → Data → Type 0) (at : ℕ) (xs : List X) (old new : List Data)
    → ((k : ℕ) (x : X) (d : Data) → Is k x d → IsPlain 125 d) → All (IsPlain 125) old → PutsEach Is at xs old new
    → All (IsPlain 125) new
each_plain Is at [] old new plain before h = rw h before
each_plain Is at (x ∷ xs) old new plain before h =
    each_plain Is (at + 1) xs (old ++ h.0 ∷ []) new plain
    (All-push (IsPlain 125) old h.0 before (plain at x h.0 h.1)) h.2

one_plain : (plan : PlanFields) (n : ℕ) (e : Entry) (d : Data) → IsEntryData plan n e d → IsPlain 125 d
one_plain plan n e d h = rw h.is (entry_within 124 h.fields)

-- the list of a journal's entries has a text that is read back
pub entries_plain : (plan : PlanFields) (before : ℕ) (es : List Entry) (key : List ℕ) (new : List Data)
    → PutsEach (λ at e d. IsEntryData plan (before + 1 + at) e d) 0 es [] new
    → IsPlain most_levels (list_data key new)
entries_plain plan before es key new h =
    list_plain key new
    (each_plain (λ at e d. IsEntryData plan (before + 1 + at) e d) 0 es [] new
    (λ k e d is. one_plain plan (before + 1 + k) e d is) none_plain h)

-- so has that of the moves of levers
pub moves_plain : (service : ServiceFields) (here : Present) (levers : List Lever) (key : List ℕ) (new : List Data)
    → PutsEach (λ at lever d. IsMoveData service here lever d) 0 levers [] new
    → IsPlain most_levels (list_data key new)
moves_plain service here levers key new h =
    list_plain key new
    (each_plain (λ at lever d. IsMoveData service here lever d) 0 levers [] new
    (λ k lever d is. one_plain service.plan _ _ d is) none_plain h)
