use Rattle.std.proofs.Common.{◌≡◌, ◌≢◌, ℕ, suc, ◌+◌, ◌≤◌, List, [], ◌∷◌, ◌++◌, All, false}
use Rattle.std.proofs.Common.{length, take, sym, ap, subst, ◌∙◌, arith, inl, inr, eqb, get_or}
use Rattle.std.proofs.lemmas.Bool.{eq-eqb}
use Rattle.std.proofs.lemmas.Bool.Decides.{eqb_tells}
use Rattle.locking_table.specs.Places.{IsLever}
use Rattle.frame_report.specs.Frame.{place_of}
use Rattle.frame_report.specs.States.{missing, places_of}
use Rattle.frame_report.proofs.ListLemmas.{all_push, find_first, find_none, map_more}
use Rattle.frame_report.proofs.asked.places_of.Goals as goal

differs : (n : ℕ) → n ≢ 0 → eqb n 0 ≡ false
differs n apart = elim (eqb_tells n 0) [ inl same ↦ absurd (apart same.1) | inr other ↦ other.0 ]

pub returns-then-place-eq0-clause-missing : goal.returns-then-place-eq0-clause-missing
returns-then-place-eq0-clause-missing c =
    find_first (λ (lever : ℕ). eqb (place_of c.args.numbers.now lever) 0) c.args.levers.now c.loop-lever.lever-index 0
    c.loop-lever-test.true c.loop-lever.invariant.none
    (eq-eqb (place_of c.args.numbers.now (get_or c.args.levers.now c.loop-lever.lever-index 0)) 0
    (sym c.place_of-place.ensures.place ∙ c.if-place-eq0.true))

pub loop-lever-preserved : goal.loop-lever-preserved
loop-lever-preserved c =
    let at = c.loop-lever.lever-index in
    let count : suc at ≡ at + 1 = omega arith in
    let pushed = c.in_ok-push.ensures.items in
    let apart : place_of c.args.numbers.now (get_or c.args.levers.now at 0) ≢ 0 =
    λ none. c.if-place-eq0.false (c.place_of-place.ensures.place ∙ none) in
    let some : 1 ≤ c.place_of-place.result = omega (arith, c.if-place-eq0.false) in
    record {
      none =
          ap (λ (n : ℕ). missing c.args.numbers.now (take n c.args.levers.now)) (sym count)
          ∙ find_none (λ (lever : ℕ). eqb (place_of c.args.numbers.now lever) 0) c.args.levers.now at 0
          c.loop-lever-test.true c.loop-lever.invariant.none
          (differs (place_of c.args.numbers.now (get_or c.args.levers.now at 0)) apart);
      same =
          pushed ∙ ap (λ (ps : List ℕ). ps ++ c.place_of-place.result ∷ []) c.loop-lever.invariant.same
          ∙ ap (λ (p : ℕ). places_of c.args.numbers.now (take at c.args.levers.now) ++ p ∷ [])
          c.place_of-place.ensures.place
          ∙ sym (map_more (place_of c.args.numbers.now) c.args.levers.now at 0 c.loop-lever-test.true)
          ∙ ap (λ (n : ℕ). places_of c.args.numbers.now (take n c.args.levers.now)) count;
      each =
          subst (λ (ps : List ℕ). All (IsLever (length c.args.numbers.now)) ps) (sym pushed)
          (all_push (IsLever (length c.args.numbers.now)) c.loop-lever.places.items c.place_of-place.result
          c.loop-lever.invariant.each (some, c.place_of-place.ensures.small));
    }
