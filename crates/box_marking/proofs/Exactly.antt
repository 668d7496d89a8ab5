-- What stands is exactly what an instructor marks, in order.
use Rattle.std.proofs.Common.{◌≡◌, ℕ, ◌+◌, ◌<◌, Bool, true, false, List, [], ◌∷◌, length, get_or}
use Rattle.std.proofs.Common.{Option, Some, refl, sym, ap, subst, replicate, arith}
use Rattle.std.specs.Prelude.{◌↔◌, Contains, ◌&&◌, not}
use Rattle.std.proofs.lemmas.List.{length-append}
use Rattle.std.proofs.lemmas.List.Elements.{All-contains}
use Rattle.std.proofs.lemmas.List.Kept.{AllPairs-filter}
use Rattle.line_plan.specs.Plans.{PlanFields}
use Rattle.line_law.specs.declared.call.Entry.{Entry}
use Rattle.box_marking.specs.declared.marking.Marking.{Marking}
use Rattle.box_marking.specs.Behind.{made_good_by, markings_by}
use Rattle.box_marking.specs.Lapses.{is_duty}
use Rattle.box_marking.specs.Markings.{AreMarkings, ComesBefore, IsMadeGood, MayMark, found_of, is_wanted}
use Rattle.box_marking.specs.Markings.{made_of, markings_of, stands, struck}
use Rattle.box_marking.proofs.InOrder.{by_entry, each_order}
use Rattle.box_marking.proofs.Kept.{contains_kept, kept_contains, kept_passes}
use Rattle.box_marking.proofs.Struck.{struck_tells}
use Rattle.box_marking.proofs.Told.{IsTold, each_told, told_each}

-- what is told of a journal, as it is split there
may_mark : (plan : PlanFields) (within : Option ℕ) (es : List Entry)
    (marking : Marking) → Contains (found_of plan within es) marking
    → MayMark plan within es marking
may_mark plan within es marking h =
    let t : IsTold Marking (markings_by plan within) [] es marking =
    each_told (markings_by plan within) [] es marking h in
    record { before = t.mid; entry = t.entry; after = t.after; split = t.split; told = t.is }

may_found : (plan : PlanFields) (within : Option ℕ) (es : List Entry)
    (marking : Marking) → MayMark plan within es marking
    → Contains (found_of plan within es) marking
may_found plan within es marking h =
    subst (λ (xs : List Entry). Contains (found_of plan within xs) marking) (sym h.split)
    (told_each (markings_by plan within) [] h.before h.entry h.after marking h.told)

made_good : (plan : PlanFields) (es : List Entry) (k : ℕ) → (Contains (made_of plan es) (Some k) ↔ IsMadeGood plan es k)
made_good plan es k = (
  λ h.
      let t : IsTold (Option ℕ) (made_good_by plan) [] es (Some k) = each_told (made_good_by plan) [] es (Some k) h in
      record { before = t.mid; entry = t.entry; after = t.after; split = t.split; told = t.is },
  λ h. subst (λ (xs : List Entry). Contains (made_of plan xs) (Some k)) (sym h.split)
      (told_each (made_good_by plan) [] h.before h.entry h.after (Some k) h.told),
)

-- an entry that may be marked is one of the journal's
marked_within : (plan : PlanFields) (within : Option ℕ) (es : List Entry)
    (marking : Marking) → MayMark plan within es marking
    → marking.entry < length es + 1
marked_within plan within es marking h =
    let number = All-contains (λ m. m.entry ≡ length h.before + 1) (markings_by plan within h.before h.entry) marking
    (by_entry plan within h.before h.entry) h.told in
    let long = ap length h.split in
    let parts = length-append h.before (h.entry ∷ h.after) in
    omega (arith, number, long, parts)

-- ---- what stands

stands_then : (wanted duty done : Bool) → (wanted && not (duty && done)) ≡ true
    → (wanted ≡ true) × (duty ≡ true → done ≡ true → ⊥)
stands_then true true true e = absurd cc
stands_then true true false e = (refl, λ f g. absurd cc)
stands_then true false done e = (refl, λ f g. absurd cc)
stands_then false duty done e = absurd cc

then_stands : (wanted duty done : Bool) → wanted ≡ true → (duty ≡ true → done ≡ true → ⊥)
    → (wanted && not (duty && done)) ≡ true
then_stands true true true e f = absurd (f refl refl)
then_stands true true false e f = refl
then_stands true false done e f = refl
then_stands false duty done e f = absurd cc

abbrev done_in : PlanFields → List Entry → List Bool
done_in plan es = struck (made_of plan es) (replicate (length es + 1) false)

-- what stands of a journal is exactly what is marked
pub markings_exact : (plan : PlanFields) (within : Option ℕ) (es : List Entry) (only : Option ℕ)
    → AreMarkings plan within es only (markings_of plan within only es)
markings_exact plan within es only =
    let test : Marking → Bool = stands only (done_in plan es) in
    record {
      exact = λ marking. (
        λ h.
            let may : MayMark plan within es marking =
            may_mark plan within es marking (kept_contains test marking (found_of plan within es) h) in
            let tells = struck_tells (made_of plan es) (length es + 1) marking.entry
            (marked_within plan within es marking may) in
            let parts = stands_then (is_wanted only marking.box_no) (is_duty marking.lapse)
            (get_or (done_in plan es) marking.entry false) (kept_passes test marking (found_of plan within es) h) in (
              record {
                may = may;
                stands = λ duty good. parts.1 duty (tells.1 ((made_good plan es marking.entry).1 good));
              },
              parts.0,
            ),
        λ h.
            let may = h.0.may in
            let tells = struck_tells (made_of plan es) (length es + 1) marking.entry
            (marked_within plan within es marking may) in
            contains_kept test marking (found_of plan within es)
            (then_stands (is_wanted only marking.box_no) (is_duty marking.lapse)
            (get_or (done_in plan es) marking.entry false) h.1
            (λ duty done. h.0.stands duty ((made_good plan es marking.entry).0 (tells.0 done))))
            (may_found plan within es marking may),
      );
      order = AllPairs-filter ComesBefore test (found_of plan within es) (each_order plan within [] es);
    }
