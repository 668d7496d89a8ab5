-- The trains of each pair of neighbours, counted entry by entry.
use Rattle.std.proofs.Common.{◌≡◌, ◌≢◌, ◌⊎◌, ℕ, ◌+◌, ◌-◌, ◌<◌, ◌≤◌, ◌^◌, Bool, true, false, inl, inr, List, [], ◌∷◌}
use Rattle.std.proofs.Common.{◌++◌, length, take, drop, get_or, replicate, refl, sym, ap, subst, ◌∙◌, arith}
use Rattle.std.proofs.lemmas.Bool.{cases_lt}
use Rattle.std.proofs.lemmas.Bool.Decides.{eqb_tells, nat_tests}
use Rattle.std.proofs.lemmas.List.{drop_more, length-drop}
use Rattle.std.proofs.lemmas.List.{get_or-set_other, get_or-set_same, get_or_past, length-replicate}
use Rattle.std.proofs.lemmas.List.{length-set}
use Rattle.std.proofs.lemmas.List.{take_at}
use Rattle.block_words.specs.declared.Way.{Way}
use Rattle.block_words.specs.declared.Way.TheVariants.{Up, Down}
use Rattle.line_plan.specs.Plans.{IsPlan, PlanFields}
use Rattle.line_plan.specs.Sections.{IsSection, advance_of}
use Rattle.line_law.specs.declared.call.Entry.{Entry}
use Rattle.line_law.specs.declared.ways.ByWay.{ByWay}
use Rattle.line_law.specs.History.{IsLegal}
use Rattle.line_law.specs.Ways.{of_way}
use Rattle.line_law.proofs.Opens.{all_one}
use Rattle.line_report.specs.Between.{AreMost, CountsBeside, CountsOn, MayGain, pairs_after, pair_after, no_trains}
use Rattle.line_report.specs.Between.{section_between, trains_at}
use Rattle.line_report.specs.Gains.{count_after, counts_trains}
use Rattle.line_report.specs.declared.sections.HeldTrains.{HeldTrains}
use Rattle.line_report.proofs.HeldTold.{none_gains, none_loses, third_gains, third_loses}
use Rattle.line_report.proofs.Turns.{no_entry}
use Rattle.line_report.proofs.MostTrains.{IsCounted, counted_first, counted_last, counted_more, counted_still}

-- both sections of a pair are sections of the line
pub is_between : (plan : PlanFields) (p : ℕ) (way : Way) → p + 1 < length plan.boxes
    → IsSection plan (section_between p way)
is_between plan p Up lt = grind (arith, nat_tests)
is_between plan p Down lt = grind (arith, nat_tests)

-- ---- one entry

counted_here : (plan : PlanFields) (e : Entry) (p : ℕ) (trains : List (ByWay HeldTrains)) → p < length trains
    → trains_at (pairs_after plan e p trains) p ≡ pair_after plan e p (trains_at trains p)
counted_here plan e p trains lt = get_or-set_same trains p (pair_after plan e p (trains_at trains p)) no_trains lt

counted_there : (plan : PlanFields) (e : Entry) (p q : ℕ) (trains : List (ByWay HeldTrains)) → q ≢ p
    → trains_at (pairs_after plan e p trains) q ≡ trains_at trains q
counted_there plan e p q trains differ = get_or-set_other trains p q (pair_after plan e p (trains_at trains p))
    no_trains differ

counted_each : (plan : PlanFields) (e : Entry) (p : ℕ) (trains : List (ByWay HeldTrains))
    → length (pairs_after plan e p trains) ≡ length trains
counted_each plan e p trains = length-set trains p (pair_after plan e p (trains_at trains p))

-- the first box has one pair
pub counts_one : (plan : PlanFields) (e : Entry) (old new : List (ByWay HeldTrains)) → e.box_no ≡ 0
    → new ≡ pairs_after plan e e.box_no old → CountsBeside plan e old new
counts_one plan e old new first is = rw is (record {
  each = counted_each plan e e.box_no old;
  beside = λ p lt near. elim near [
    | inl same ↦ rw same (counted_here plan e e.box_no old (omega (arith, lt, same)))
    | inr same ↦ absurd (omega (arith, same, first))
  ];
  others = λ p differ apart. counted_there plan e e.box_no p old differ;
})

-- every other has two, or the line has no such box
pub counts_two : (plan : PlanFields) (e : Entry) (old new : List (ByWay HeldTrains)) → 0 < e.box_no
    → new ≡ pairs_after plan e (e.box_no - 1) (pairs_after plan e e.box_no old) → CountsBeside plan e old new
counts_two plan e old new later is =
    let b : ℕ = e.box_no in
    let middle : List (ByWay HeldTrains) = pairs_after plan e b old in
    let each = counted_each plan e b old in
    rw is (record {
      each = counted_each plan e (b - 1) middle ∙ each;
      beside = λ p lt near. elim near [
        | inl same ↦
            let differ : p ≢ b - 1 = omega (arith, same, later) in
            counted_there plan e (b - 1) p middle differ ∙ rw same (counted_here plan e b old (omega (arith, lt, same)))
        | inr same ↦
            let at : p ≡ b - 1 = omega (arith, same) in
            let differ : b - 1 ≢ b = omega (arith, later) in
            rw at (counted_here plan e (b - 1) middle (omega (arith, lt, at, each))
            ∙ ap (λ (trains : ByWay HeldTrains). pair_after plan e (b - 1) trains)
            (counted_there plan e b (b - 1) old differ))
      ];
      others = λ p differ apart. counted_there plan e (b - 1) p middle (λ f. apart (omega (arith, f, later)))
          ∙ counted_there plan e b p old differ;
    })

-- ---- so far

-- the trains of each pair so far, where so many entries are behind
pub record AreCounted (plan : PlanFields) (es : List Entry) (i : ℕ) (trains : List (ByWay HeldTrains)) : Type 0 where
  pub each : length trains + 1 ≡ length plan.boxes
  pub counted : (p : ℕ) (way : Way) → p < length trains → IsCounted plan es (section_between p way) i
      (of_way (trains_at trains p) way)

none_way : (trains : ByWay HeldTrains) (way : Way) → trains ≡ no_trains
    → of_way trains way ≡ record { now = 0; most = 0 }
none_way trains Up e = ap (λ (t : ByWay HeldTrains). t.up) e
none_way trains Down e = ap (λ (t : ByWay HeldTrains). t.down) e

-- before the first entry
pub pairs_first : (plan : PlanFields) (es : List Entry) (n : ℕ) (trains : List (ByWay HeldTrains)) → IsPlan plan
    → IsLegal plan es → n + 1 ≡ length plan.boxes → trains ≡ replicate n no_trains → AreCounted plan es 0 trains
pairs_first plan es n trains is legal pairs none =
    let each : length trains ≡ n = ap length none ∙ length-replicate n no_trains in
    record {
      each = omega (arith, each, pairs);
      counted = λ p way lt.
          let at : trains_at trains p ≡ no_trains = ap (λ (ts : List (ByWay HeldTrains)). trains_at ts p) none
          ∙ all_one n p no_trains in
          subst (λ (held : HeldTrains). IsCounted plan es (section_between p way) 0 held)
          (sym (none_way (trains_at trains p) way at))
          (counted_first plan es (section_between p way) is (is_between plan p way (omega (arith, lt, each, pairs)))
          legal);
    }

-- each pair has room for a train more
pairs_room : (plan : PlanFields) (es : List Entry) (i : ℕ) (trains : List (ByWay HeldTrains)) → i + 1 < 2 ^ 32
    → AreCounted plan es i trains → (p : ℕ) → MayGain (trains_at trains p)
pairs_room plan es i trains few h p = elim (cases_lt p (length trains)) [
  | inl within ↦
      let up = (h.counted p Up within).few in
      let down = (h.counted p Down within).few in
      (omega (arith, up, few), omega (arith, down, few))
  | inr past ↦ rw (get_or_past trains p no_trains past) (omega arith, omega arith)
]

counted_way : (plan : PlanFields) (e : Entry) (p : ℕ) (way : Way) (old new : ByWay HeldTrains)
    → new ≡ pair_after plan e p old → of_way new way ≡ count_after plan (section_between p way) e (of_way old way)
counted_way plan e p Up old new is = ap (λ (t : ByWay HeldTrains). t.up) is
counted_way plan e p Down old new is = ap (λ (t : ByWay HeldTrains). t.down) is

-- a box of no pair is neither box of its sections
apart : (b p : ℕ) (way : Way) → p ≢ b → p + 1 ≢ b
    → (b ≢ (section_between p way).rear) × (b ≢ advance_of (section_between p way))
apart b p Up np nq = (λ e. nq (sym e), λ e. np (omega (arith, e)))
apart b p Down np nq = (λ e. np (sym e), λ e. nq (sym e))

beside_or_not : (b p : ℕ) → ((p ≡ b) ⊎ (p + 1 ≡ b)) ⊎ ((p ≢ b) × (p + 1 ≢ b))
beside_or_not b p = elim (eqb_tells p b) [
  | inl same ↦ inl (inl same.1)
  | inr differ ↦ elim (eqb_tells (p + 1) b) [ inl same ↦ inl (inr same.1) | inr apart ↦ inr (differ.1, apart.1) ]
]

-- one entry more, on which the pairs of its box are counted
pairs_more : (plan : PlanFields) (es : List Entry) (i : ℕ) (d : Entry) (old new : List (ByWay HeldTrains))
    → i < length es → CountsBeside plan (get_or es i d) old new → AreCounted plan es i old
    → AreCounted plan es (i + 1) new
pairs_more plan es i d old new lt counts h = record {
  each = ap (λ (n : ℕ). n + 1) counts.each ∙ h.each;
  counted = λ p way within_new.
      let e : Entry = get_or es i d in
      let within : p < length old = (let each = counts.each in omega (arith, within_new, each)) in
      elim (beside_or_not e.box_no p) [
        | inl beside ↦
            subst (λ (trains : HeldTrains). IsCounted plan es (section_between p way) (i + 1) trains)
            (sym (counted_way plan e p way (trains_at old p) (trains_at new p) (counts.beside p within beside)))
            (counted_more plan es (section_between p way) i d (of_way (trains_at old p) way) lt
            (h.counted p way within))
        | inr others ↦
            let boxes = apart e.box_no p way others.0 others.1 in
            subst (λ (trains : ByWay HeldTrains). IsCounted plan es (section_between p way) (i + 1) (of_way trains way))
            (sym (counts.others p others.0 others.1))
            (counted_still plan es (section_between p way) i d (of_way (trains_at old p) way) lt
            (third_gains plan (section_between p way) e boxes.0 boxes.1)
            (third_loses plan (section_between p way) e boxes.1) (h.counted p way within))
      ];
}

-- one entry more, whose reply tells of no train
pairs_still : (plan : PlanFields) (es : List Entry) (i : ℕ) (d : Entry) (trains : List (ByWay HeldTrains))
    → i < length es → counts_trains (get_or es i d).reply ≡ false → AreCounted plan es i trains
    → AreCounted plan es (i + 1) trains
pairs_still plan es i d trains lt none h = record {
  each = h.each;
  counted = λ p way within.
      counted_still plan es (section_between p way) i d (of_way (trains_at trains p) way) lt
      (none_gains plan (section_between p way) (get_or es i d) none)
      (none_loses plan (section_between p way) (get_or es i d) none) (h.counted p way within);
}

-- one entry more
pairs_on : (plan : PlanFields) (es : List Entry) (i : ℕ) (d : Entry) (old new : List (ByWay HeldTrains))
    → i < length es → CountsOn plan (get_or es i d) old new → AreCounted plan es i old
    → (length new ≡ length old) × AreCounted plan es (i + 1) new
pairs_on plan es i d old new lt counts h = go (counts_trains (get_or es i d).reply) refl where
  go : (told : Bool) → counts_trains (get_or es i d).reply ≡ told
      → (length new ≡ length old) × AreCounted plan es (i + 1) new
  go true is = let beside = counts.beside is in (beside.each, pairs_more plan es i d old new lt beside h)
  go false is =
      let same : new ≡ old = counts.none is in (
        ap length same,
        subst (λ (trains : List (ByWay HeldTrains)). AreCounted plan es (i + 1) trains) (sym same)
            (pairs_still plan es i d old lt is h),
      )

-- one entry more of a list, whose pairs are then written back
pairs_at : (plan : PlanFields) (es : List Entry) (i : ℕ) (d : Entry) (len : ℕ) (old new : List (ByWay HeldTrains))
    → i < length es → CountsOn plan (get_or es i d) old new → len ≡ length old → AreCounted plan es i old
    → AreCounted plan es (i + 1) (take len (new ++ drop (length new) old))
pairs_at plan es i d len old new lt counts is h =
    let on = pairs_on plan es i d old new lt counts h in
    let written : take len (new ++ drop (length new) old) ≡ new =
    take_at new (drop (length new) old) len (on.0 ∙ sym is) in
    subst (λ (trains : List (ByWay HeldTrains)). AreCounted plan es (i + 1) trains) (sym written) on.1

-- behind the last entry
pairs_end : (plan : PlanFields) (es : List Entry) (i : ℕ) (trains : List (ByWay HeldTrains)) → length es ≤ i
    → AreCounted plan es i trains → AreMost plan es trains
pairs_end plan es i trains le h = record {
  each = h.each;
  at_pair =
      λ p way lt. counted_last plan es (section_between p way) i (of_way (trains_at trains p) way) le
      (h.counted p way lt);
}

-- ---- along the entries

-- where so many entries are behind, the next one is the first ahead
next_of : (es : List Entry) (i : ℕ) (e : Entry) (rest : List Entry) → e ∷ rest ≡ drop i es
    → (i < length es) × (get_or es i no_entry ≡ e) × (rest ≡ drop (i + 1) es)
next_of es i e rest ahead =
    let some = ap (λ (xs : List Entry). length xs) ahead in
    let long = length-drop i es in
    let lt : i < length es = omega (arith, some, long) in
    let both : e ∷ rest ≡ get_or es i no_entry ∷ drop (i + 1) es = ahead ∙ drop_more es i no_entry lt in
    (lt, cc both, cc both)

-- the trains are counted on by it
pub counts_next : (plan : PlanFields) (es : List Entry) (i len : ℕ) (e : Entry) (rest : List Entry)
    (read old new : List (ByWay HeldTrains)) → e ∷ rest ≡ drop i es → read ≡ old → CountsOn plan e read new
    → len ≡ length old → AreCounted plan es i old
    → AreCounted plan es (i + 1) (take len (new ++ drop (length new) old)) × (rest ≡ drop (i + 1) es)
counts_next plan es i len e rest read old new ahead same counts is h =
    let next = next_of es i e rest ahead in
    let here : CountsOn plan (get_or es i no_entry) old new =
    subst (λ (x : Entry). CountsOn plan x old new) (sym next.1)
    (subst (λ (trains : List (ByWay HeldTrains)). CountsOn plan e trains new) same counts) in
    (pairs_at plan es i no_entry len old new next.0 here is h, next.2)

-- with an entry ahead, each pair has room for a train more
pub room_ahead : (plan : PlanFields) (es : List Entry) (i : ℕ) (e : Entry) (rest : List Entry)
    (read trains : List (ByWay HeldTrains)) → e ∷ rest ≡ drop i es → length es < 2 ^ 32 → read ≡ trains
    → AreCounted plan es i trains → (p : ℕ) → MayGain (trains_at read p)
room_ahead plan es i e rest read trains ahead few same h p =
    let next = next_of es i e rest ahead in
    subst (λ (ts : List (ByWay HeldTrains)). MayGain (trains_at ts p)) (sym same)
    (pairs_room plan es i trains (omega (arith, next.0, few)) h p)

-- with none ahead, these are the most of the journal
pub counts_end : (plan : PlanFields) (es : List Entry) (i : ℕ) (trains : List (ByWay HeldTrains)) → [] ≡ drop i es
    → AreCounted plan es i trains → AreMost plan es trains
counts_end plan es i trains ahead h =
    let none = ap (λ (xs : List Entry). length xs) ahead in
    let long = length-drop i es in
    pairs_end plan es i trains (omega (arith, none, long)) h
