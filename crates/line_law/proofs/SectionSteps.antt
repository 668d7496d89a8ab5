-- A fact of a section that each box's own decisions keep is kept by every call of the line.
use Rattle.std.proofs.Common.{ℕ, ◌≡◌, ◌≢◌, ◌<◌, ◌+◌, ◌⊎◌, inl, inr, true, false, IsTrue, length, refl, sym, ap, ◌∙◌}
use Rattle.std.proofs.Common.{subst, eqb, arith}
use Rattle.std.specs.Prelude.{nat_lt}
use Rattle.std.proofs.lemmas.Bool.Decides.{eqb_tells, nat_tests}
use Rattle.block_words.specs.Ways.{opposite}
use Rattle.block_words.specs.declared.Way.{Way}
use Rattle.block_words.specs.declared.Way.TheVariants.{Up, Down}
use Rattle.line_plan.specs.Plans.{PlanFields, IsPlan}
use Rattle.line_plan.specs.Sections.{IsSection, advance_of, next_box}
use Rattle.line_plan.specs.Ways.{comes_in, leaves}
use Rattle.line_plan.specs.declared.section.Section.{Section}
use Rattle.line_law.specs.declared.call.Call.{Call}
use Rattle.line_law.specs.declared.link.Link.{Link}
use Rattle.line_law.specs.declared.link.Link.TheVariants.{Out, In}
use Rattle.line_law.specs.Decisions.{Decision}
use Rattle.line_law.specs.Known.{KnowsCall}
use Rattle.line_law.specs.Law.{link_of, box_plan_of, step}
use Rattle.line_law.specs.Links.{pair_no, way_of}
use Rattle.line_law.specs.SectionFacts.{Fact, HasLink, Holds, IsLocal, Keeps, decided}
use Rattle.line_law.specs.States.{IsStateOf, LineState, box_at}
use Rattle.line_law.proofs.Found.{both}
use Rattle.line_law.proofs.SectionLift.{IsElsewhere, line_after, lift_advance_off, lift_advance_own, lift_rear_off}
use Rattle.line_law.proofs.SectionLift.{lift_rear_own, lift_third, pair_of_section}
use Rattle.line_law.proofs.Sides.{known_box, known_link}

-- what a section says of its numbers
pub record HasBoxes (n : ℕ) (x : Section) : Type 0 where
  pub two : x.rear ≢ advance_of x
  pub rear : x.rear < n
  pub advance : advance_of x < n
  pub pair : pair_of_section x + 1 < n
  pub same : pair_no (advance_of x) (In x.way) ≡ pair_of_section x

-- a section has a rear box and a box in advance
pub has_boxes : (n rear : ℕ) (way : Way) → IsTrue (leaves n rear way) → HasBoxes n (record { rear = rear; way = way })
has_boxes n rear Up h =
    let p = both (nat_lt 0 rear) (nat_lt rear n) h in
    let low : 0 < rear = grind (arith, nat_tests) in
    let high : rear < n = grind (arith, nat_tests) in
    record {
      two = λ e. absurd (omega (arith, low, e));
      rear = high;
      advance = omega (arith, high);
      pair =
          omega (arith, low, high);
      same = refl;
    }
has_boxes n rear Down h =
    let high : rear + 1 < n = grind (arith, nat_tests) in
    record {
      two = λ e. absurd (omega (arith, e));
      rear = omega (arith, high);
      advance = high;
      pair = high;
      same =
          omega arith;
    }

-- the ways of two lines
ways_of : (v w : Way) → (v ≡ w) ⊎ (v ≡ opposite w)
ways_of Up Up = inl refl
ways_of Up Down = inr refl
ways_of Down Up = inr refl
ways_of Down Down = inl refl

not_both : (v w : Way) → v ≡ w → v ≡ opposite w → ⊥
not_both Up Up e f = cc
not_both Up Down e f = cc
not_both Down Up e f = cc
not_both Down Down e f = cc

out_way : (v w : Way) → Link.Out v ≡ Link.Out w → v ≡ w
out_way v w e = cc

in_way : (v w : Way) → Link.In v ≡ Link.In w → v ≡ w
in_way v w e = cc

-- an outgoing line of a box that isn't the rear one is on other words
out_apart : (n b rear : ℕ) (w : Way) → IsTrue (leaves n b w) → IsTrue (leaves n rear w) → b ≢ rear
    → pair_no b (Out w) ≢ pair_no rear (Out w)
out_apart n b rear Up h k ne =
    let p = both (nat_lt 0 b) (nat_lt b n) h in
    let q = both (nat_lt 0 rear) (nat_lt rear n) k in
    let low : 0 < b = (let r = p.0 in grind (arith, nat_tests)) in
    let also : 0 < rear = (let r = q.0 in grind (arith, nat_tests)) in
    λ e. ne (omega (arith, low, also, e))
out_apart n b rear Down h k ne = ne

-- an incoming line of a box that isn't the one in advance is on other words
in_apart : (n b rear : ℕ) (w : Way) → IsTrue (comes_in n b w) → IsTrue (leaves n rear w) → b ≢ next_box rear w
    → pair_no b (In w) ≢ pair_no rear (Out w)
in_apart n b rear Up h k ne = λ e. ne (omega (arith, e))
in_apart n b rear Down h k ne =
    let p = both (nat_lt 0 b) (nat_lt b n) h in
    let low : 0 < b = (let r = p.0 in grind (arith, nat_tests)) in
    λ e. ne (omega (arith, low, e))

out_elsewhere : (n b : ℕ) (x : Section) (d : Decision) (v : Way) → (v ≡ x.way) ⊎ (v ≡ opposite x.way)
    → IsTrue (leaves n b v) ⊎ IsLocal d → IsTrue (leaves n x.rear x.way) → b ≢ x.rear
    → IsElsewhere d (pair_no b (Out v)) v (pair_of_section x) x.way
out_elsewhere n b x d v (inr other) ok is ne = inr (inl other)
out_elsewhere n b x d v (inl same) (inr here) is ne = inr (inr here)
out_elsewhere n b x d v (inl same) (inl leaves_it) is ne =
    let h : IsTrue (leaves n b x.way) = subst (λ (w : Way). IsTrue (leaves n b w)) same leaves_it in
    inl (subst (λ (w : Way). pair_no b (Out w) ≢ pair_of_section x) (sym same) (out_apart n b x.rear x.way h is ne))

in_elsewhere : (n b : ℕ) (x : Section) (d : Decision) (v : Way) → (v ≡ x.way) ⊎ (v ≡ opposite x.way)
    → IsTrue (comes_in n b v) ⊎ IsLocal d → IsTrue (leaves n x.rear x.way) → b ≢ advance_of x
    → IsElsewhere d (pair_no b (In v)) v (pair_of_section x) x.way
in_elsewhere n b x d v (inr other) ok is ne = inr (inl other)
in_elsewhere n b x d v (inl same) (inr here) is ne = inr (inr here)
in_elsewhere n b x d v (inl same) (inl comes) is ne =
    let h : IsTrue (comes_in n b x.way) = subst (λ (w : Way). IsTrue (comes_in n b w)) same comes in
    inl (subst (λ (w : Way). pair_no b (In w) ≢ pair_of_section x) (sym same) (in_apart n b x.rear x.way h is ne))

-- ---- the rear box

rear_out : (Q : Fact) (plan : PlanFields) (s : LineState) (x : Section) (v : Way) (call : Call)
    → (v ≡ x.way) ⊎ (v ≡ opposite x.way) → HasBoxes (length plan.boxes) x → x.rear < length s.boxes
    → pair_of_section x < length s.pairs
    → link_of (box_plan_of plan x.rear) call.act ≡ Out v
    → Keeps Q plan x call → Holds Q s x
    → Holds Q (line_after s x.rear (pair_no x.rear (Out v)) v (decided plan x.rear call (box_at s x.rear))) x
rear_out Q plan s x v call (inl same) has b_in p_in e keeps h =
    let d : Decision = decided plan x.rear call (box_at s x.rear) in
    let F : Way → Type 0 = λ u. Holds Q (line_after s x.rear (pair_no x.rear (Out u)) u d) x in
    subst F (sym same)
    (lift_rear_own Q s x d has.two b_in p_in (keeps.rear_own (e ∙ ap (λ (u : Way). Link.Out u) same) _ _ _ _ _ h))
rear_out Q plan s x v call (inr other) has b_in p_in e keeps h =
    let d : Decision = decided plan x.rear call (box_at s x.rear) in
    lift_rear_off Q s x (pair_no x.rear (Out v)) v d has.two b_in p_in (inr (inl other))
    (keeps.rear_off (λ f. not_both v x.way (out_way v x.way (sym e ∙ f)) other) _ _ _ _ _ h)

rear_link : (Q : Fact) (plan : PlanFields) (s : LineState) (x : Section) (call : Call) (l : Link) → IsSection plan x
    → HasBoxes (length plan.boxes) x → x.rear < length s.boxes → pair_of_section x < length s.pairs
    → link_of (box_plan_of plan x.rear) call.act ≡ l
    → (HasLink (length plan.boxes) x.rear l) ⊎ IsLocal (decided plan x.rear call (box_at s x.rear))
    → Keeps Q plan x call → Holds Q s x
    → Holds Q (line_after s x.rear (pair_no x.rear l) (way_of l) (decided plan x.rear call (box_at s x.rear))) x
rear_link Q plan s x call (Out v) is has b_in p_in e ok keeps h =
    rear_out Q plan s x v call (ways_of v x.way) has b_in p_in e keeps h
rear_link Q plan s x call (In v) is has b_in p_in e ok keeps h =
    let d : Decision = decided plan x.rear call (box_at s x.rear) in
    lift_rear_off Q s x (pair_no x.rear (In v)) v d has.two b_in p_in
    (in_elsewhere (length plan.boxes) x.rear x d v (ways_of v x.way) ok is has.two)
    (keeps.rear_off (λ f. let g : Link.In v ≡ Link.Out x.way = sym e ∙ f in cc) _ _ _ _ _ h)

-- ---- the box in advance

advance_in : (Q : Fact) (plan : PlanFields) (s : LineState) (x : Section) (v : Way) (call : Call)
    → (v ≡ x.way) ⊎ (v ≡ opposite x.way) → HasBoxes (length plan.boxes) x → advance_of x < length s.boxes
    → pair_of_section x < length s.pairs
    → link_of (box_plan_of plan (advance_of x)) call.act ≡ In v
    → Keeps Q plan x call → Holds Q s x
    → Holds Q
    (line_after s (advance_of x) (pair_no (advance_of x) (In v)) v
    (decided plan (advance_of x) call (box_at s (advance_of x)))) x
advance_in Q plan s x v call (inl same) has b_in p_in e keeps h =
    let a : ℕ = advance_of x in
    let d : Decision = decided plan a call (box_at s a) in
    let F : ℕ → Way → Type 0 = λ q u. Holds Q (line_after s a q u d) x in
    let at : F (pair_of_section x) x.way =
    lift_advance_own Q s x d has.two b_in p_in
    (keeps.advance_own (e ∙ ap (λ (u : Way). Link.In u) same) _ _ _ _ _ h) in
    let there : F (pair_no a (In x.way)) x.way = subst (λ (q : ℕ). F q x.way) (sym has.same) at in
    subst (λ (u : Way). F (pair_no a (In u)) u) (sym same) there
advance_in Q plan s x v call (inr other) has b_in p_in e keeps h =
    let a : ℕ = advance_of x in
    let d : Decision = decided plan a call (box_at s a) in
    lift_advance_off Q s x (pair_no a (In v)) v d has.two b_in p_in (inr (inl other))
    (keeps.advance_off (λ f. not_both v x.way (in_way v x.way (sym e ∙ f)) other) _ _ _ _ _ h)

advance_link : (Q : Fact) (plan : PlanFields) (s : LineState) (x : Section) (call : Call) (l : Link) → IsSection plan x
    → HasBoxes (length plan.boxes) x → advance_of x < length s.boxes → pair_of_section x < length s.pairs
    → link_of (box_plan_of plan (advance_of x)) call.act ≡ l
    → (HasLink (length plan.boxes) (advance_of x) l)
    ⊎ IsLocal (decided plan (advance_of x) call (box_at s (advance_of x)))
    → Keeps Q plan x call → Holds Q s x
    → Holds Q
    (line_after s (advance_of x) (pair_no (advance_of x) l) (way_of l)
    (decided plan (advance_of x) call (box_at s (advance_of x)))) x
advance_link Q plan s x call (In v) is has b_in p_in e ok keeps h =
    advance_in Q plan s x v call (ways_of v x.way) has b_in p_in e keeps h
advance_link Q plan s x call (Out v) is has b_in p_in e ok keeps h =
    let a : ℕ = advance_of x in
    let d : Decision = decided plan a call (box_at s a) in
    lift_advance_off Q s x (pair_no a (Out v)) v d has.two b_in p_in
    (out_elsewhere (length plan.boxes) a x d v (ways_of v x.way) ok is (λ f. has.two (sym f)))
    (keeps.advance_off (λ f. let g : Link.Out v ≡ Link.In x.way = sym e ∙ f in cc) _ _ _ _ _ h)

-- ---- a third box

third_link : (Q : Fact) (plan : PlanFields) (s : LineState) (x : Section) (b : ℕ) (d : Decision) (l : Link)
    → IsSection plan x → b ≢ x.rear → b ≢ advance_of x → pair_of_section x < length s.pairs
    → (HasLink (length plan.boxes) b l) ⊎ IsLocal d
    → Holds Q s x → Holds Q (line_after s b (pair_no b l) (way_of l) d) x
third_link Q plan s x b d (Out v) is nr na p_in ok h =
    lift_third Q s x b (pair_no b (Out v)) v d nr na p_in
    (out_elsewhere (length plan.boxes) b x d v (ways_of v x.way) ok is nr) h
third_link Q plan s x b d (In v) is nr na p_in ok h =
    lift_third Q s x b (pair_no b (In v)) v d nr na p_in
    (in_elsewhere (length plan.boxes) b x d v (ways_of v x.way) ok is na) h

-- ---- any box

abbrev LinkIsFine : PlanFields → LineState → ℕ → Call → Type 0
LinkIsFine plan s b call =
    (HasLink (length plan.boxes) b (link_of (box_plan_of plan b) call.act)) ⊎ IsLocal (decided plan b call (box_at s b))

by_box : (Q : Fact) (plan : PlanFields) (s : LineState) (b : ℕ) (x : Section) (call : Call)
    → ((eqb b x.rear ≡ true) × (b ≡ x.rear)) ⊎ ((eqb b x.rear ≡ false) × (b ≢ x.rear))
    → ((eqb b (advance_of x) ≡ true) × (b ≡ advance_of x)) ⊎ ((eqb b (advance_of x) ≡ false) × (b ≢ advance_of x))
    → IsSection plan x → HasBoxes (length plan.boxes) x → b < length s.boxes → pair_of_section x < length s.pairs
    → LinkIsFine plan s b call
    → Keeps Q plan x call → Holds Q s x → Holds Q (step plan s b call).after x
unfolding step
by_box Q plan s b x call (inl rear) other is has b_in p_in ok keeps h =
    let F : ℕ → Type 0 = λ k. k < length s.boxes → LinkIsFine plan s k call → Holds Q (step plan s k call).after x in
    subst F (sym rear.1)
    (λ k_in k_ok. rear_link Q plan s x call (link_of (box_plan_of plan x.rear) call.act) is has k_in p_in refl k_ok
    keeps h) b_in ok
by_box Q plan s b x call (inr nr) (inl advance) is has b_in p_in ok keeps h =
    let F : ℕ → Type 0 = λ k. k < length s.boxes → LinkIsFine plan s k call → Holds Q (step plan s k call).after x in
    subst F (sym advance.1)
    (λ k_in k_ok. advance_link Q plan s x call (link_of (box_plan_of plan (advance_of x)) call.act) is has k_in p_in
    refl k_ok keeps h) b_in ok
by_box Q plan s b x call (inr nr) (inr na) is has b_in p_in ok keeps h =
    third_link Q plan s x b (decided plan b call (box_at s b)) (link_of (box_plan_of plan b) call.act) is nr.1 na.1 p_in
    ok h

-- one call keeps the fact
pub step_keeps : (Q : Fact) (plan : PlanFields) (s : LineState) (b : ℕ) (x : Section) (call : Call) → IsPlan plan
    → IsStateOf plan s → IsSection plan x → KnowsCall plan b call → Keeps Q plan x call → Holds Q s x
    → Holds Q (step plan s b call).after x
step_keeps Q plan s b x call is shape in_line known keeps h =
    let has = has_boxes (length plan.boxes) x.rear x.way in_line in
    by_box Q plan s b x call (eqb_tells b x.rear) (eqb_tells b (advance_of x)) in_line has
    (omega (arith, shape.boxes, known_box plan b call known)) (omega (arith, shape.pairs, has.pair))
    (known_link plan b call (box_at s b) is known) keeps h
