-- From a fact of a section to another after a call, by the call's reply: where the decisions of the section's two boxes
-- lead from the one to the other, every call of the line does.
use Rattle.std.proofs.Common.{ℕ, ◌≡◌, ◌≢◌, ◌<◌, ◌⊎◌, inl, inr, true, false, IsTrue, List, length, refl, sym, ap, ◌∙◌}
use Rattle.std.proofs.Common.{subst, eqb, arith}
use Rattle.std.proofs.lemmas.Bool.Decides.{eqb_tells}
use Rattle.std.proofs.lemmas.List.{get_or-set_same}
use Rattle.block_words.specs.Ways.{opposite}
use Rattle.block_words.specs.declared.Way.{Way}
use Rattle.block_words.specs.declared.Way.TheVariants.{Up, Down}
use Rattle.line_plan.specs.Plans.{IsPlan, PlanFields}
use Rattle.line_plan.specs.Sections.{IsSection, advance_of, next_box}
use Rattle.line_plan.specs.Ways.{comes_in, leaves}
use Rattle.line_plan.specs.declared.section.Section.{Section}
use Rattle.line_law.specs.declared.call.Call.{Call}
use Rattle.line_law.specs.declared.call.Reply.{Reply}
use Rattle.line_law.specs.declared.link.Link.{Link}
use Rattle.line_law.specs.declared.link.Link.TheVariants.{Out, In}
use Rattle.line_law.specs.declared.state.Bell.{Bell}
use Rattle.line_law.specs.declared.state.Block.{Block}
use Rattle.line_law.specs.declared.state.BoxState.{BoxState}
use Rattle.line_law.specs.declared.state.PairState.{PairState}
use Rattle.line_law.specs.declared.state.Passage.{Passage}
use Rattle.line_law.specs.Decisions.{Decision, Here, OnBell, OnBlock, OnPlainLine, on_pair}
use Rattle.line_law.specs.Known.{KnowsCall}
use Rattle.line_law.specs.Law.{link_of, box_plan_of, step}
use Rattle.line_law.specs.Links.{pair_no, way_of}
use Rattle.line_law.specs.SectionFacts.{AfterElsewhere, AfterOwn, Fact, HasLink, Holds, IsLocal, decided}
use Rattle.line_law.specs.States.{IsStateOf, LineState, box_at, no_state, pair_at}
use Rattle.line_law.specs.Ways.{of_way}
use Rattle.line_law.proofs.SectionLift.{IsElsewhere, line_after, lift_advance_off, lift_advance_own, lift_rear_off}
use Rattle.line_law.proofs.SectionLift.{lift_rear_own, lift_third, pair_of_section}
use Rattle.line_law.proofs.SectionSteps.{HasBoxes, has_boxes}
use Rattle.line_law.proofs.Sides.{known_box, known_link}

-- a fact of a section after a call of a box, which was answered so
abbrev pub ReplyFact : Type 1
ReplyFact = ℕ → Reply → Fact

-- after a decision on the section's own words, with its reply
abbrev pub ThenOwn : Decision → (Reply → BoxState → Bell → Block → List Passage → Type 0) → Bell → Block → List Passage
    → Type 0
ThenOwn (Here reply here) P bell block line = P reply here bell block line
ThenOwn (OnBell act) P bell block line = P (act bell).reply (act bell).here (act bell).word block line
ThenOwn (OnBlock act) P bell block line = P (act block).reply (act block).here bell (act block).word line
ThenOwn (OnPlainLine act) P bell block line = P (act line).reply (act line).here bell block (act line).word

-- after a decision on some other word, whatever that is, with its reply
abbrev pub ThenElsewhere : Decision → (Reply → BoxState → Type 0) → Type 0
ThenElsewhere (Here reply here) P = P reply here
ThenElsewhere (OnBell act) P = (bell : Bell) → P (act bell).reply (act bell).here
ThenElsewhere (OnBlock act) P = (block : Block) → P (act block).reply (act block).here
ThenElsewhere (OnPlainLine act) P = (line : List Passage) → P (act line).reply (act line).here

-- A call of box b leads from a fact of the section to another. At either box it may be on a word of the section, or
-- elsewhere; and a call of a third box reaches none of its parts.
pub record Leads (Q : Fact) (After : ReplyFact) (plan : PlanFields) (b : ℕ) (section : Section) (call : Call) : Type 0
  where
    pub rear_own : b ≡ section.rear → link_of (box_plan_of plan section.rear) call.act ≡ Out section.way
        → (r a : BoxState) (l : Bell) (k : Block) (t : List Passage) → Q r a l k t
        → ThenOwn (decided plan section.rear call r) (λ reply h l k t. After section.rear reply h a l k t) l k t
    pub rear_off : b ≡ section.rear → (link_of (box_plan_of plan section.rear) call.act ≡ Out section.way → ⊥)
        → (r a : BoxState) (l : Bell) (k : Block) (t : List Passage) → Q r a l k t
        → ThenElsewhere (decided plan section.rear call r) (λ reply h. After section.rear reply h a l k t)
    pub advance_own : b ≡ advance_of section → link_of (box_plan_of plan (advance_of section)) call.act ≡ In section.way
        → (r a : BoxState) (l : Bell) (k : Block) (t : List Passage) → Q r a l k t
        → ThenOwn (decided plan (advance_of section) call a)
        (λ reply h l k t. After (advance_of section) reply r h l k t)
        l k t
    pub advance_off : b ≡ advance_of section
        → (link_of (box_plan_of plan (advance_of section)) call.act ≡ In section.way → ⊥)
        → (r a : BoxState) (l : Bell) (k : Block) (t : List Passage) → Q r a l k t
        → ThenElsewhere (decided plan (advance_of section) call a)
        (λ reply h. After (advance_of section) reply r h l k t)
    pub third : b ≢ section.rear → b ≢ advance_of section
        → (reply : Reply) (r a : BoxState) (l : Bell) (k : Block) (t : List Passage) → Q r a l k t
        → After b reply r a l k t

-- ---- the reply of a decision

own_reply : (d : Decision) (w : Way) (pair : PairState) (P : Reply → BoxState → Bell → Block → List Passage → Type 0)
    → ThenOwn d P (of_way pair.bells w) (of_way pair.blocks w) (of_way pair.lines w)
    → AfterOwn d (λ h l k t. P (on_pair w d pair).reply h l k t) (of_way pair.bells w) (of_way pair.blocks w)
    (of_way pair.lines w)
own_reply (Here reply here) w pair P h = h
own_reply (OnBell act) w pair P h = h
own_reply (OnBlock act) w pair P h = h
own_reply (OnPlainLine act) w pair P h = h

-- what holds with its own reply, whatever word it is decided on
holds_after : (d : Decision) (v : Way) (pair : PairState) (P : Reply → BoxState → Type 0) → ThenElsewhere d P
    → P (on_pair v d pair).reply (on_pair v d pair).here
holds_after (Here reply here) v pair P h = h
holds_after (OnBell act) v pair P h = h (of_way pair.bells v)
holds_after (OnBlock act) v pair P h = h (of_way pair.blocks v)
holds_after (OnPlainLine act) v pair P h = h (of_way pair.lines v)

off_const : (d : Decision) (P : Type 0) → P → AfterElsewhere d (λ h. P)
off_const (Here reply here) P p = p
off_const (OnBell act) P p = λ x. p
off_const (OnBlock act) P p = λ x. p
off_const (OnPlainLine act) P p = λ x. p

-- ---- where a call is off the section's words

one_way : (v w : Way) → (v ≡ w) ⊎ (v ≡ opposite w)
one_way Up Up = inl refl
one_way Up Down = inr refl
one_way Down Up = inr refl
one_way Down Down = inl refl

ways_apart : (v w : Way) → v ≡ w → v ≡ opposite w → ⊥
ways_apart Up Up e f = cc
ways_apart Up Down e f = cc
ways_apart Down Up e f = cc
ways_apart Down Down e f = cc

out_way : (v w : Way) → Link.Out v ≡ Link.Out w → v ≡ w
out_way v w e = cc

in_way : (v w : Way) → Link.In v ≡ Link.In w → v ≡ w
in_way v w e = cc

out_apart : (n b rear : ℕ) (w : Way) → IsTrue (leaves n b w) → IsTrue (leaves n rear w) → b ≢ rear
    → pair_no b (Out w) ≢ pair_no rear (Out w)
out_apart n b rear Up h is ne =
    let one = has_boxes n b Up h in
    let two = has_boxes n rear Up is in
    let low = one.two in
    let also = two.two in
    λ e. ne (omega (arith, low, also, e))
out_apart n b rear Down h is ne = ne

in_apart : (n b rear : ℕ) (w : Way) → IsTrue (comes_in n b w) → IsTrue (leaves n rear w) → b ≢ next_box rear w
    → pair_no b (In w) ≢ pair_no rear (Out w)
in_apart n b rear Up h is ne = ne
in_apart n b rear Down h is ne =
    let one = has_boxes n b Up h in
    let low = one.two in
    λ e. ne (omega (arith, low, e))

out_elsewhere : (n b : ℕ) (x : Section) (d : Decision) (v : Way) → (v ≡ x.way) ⊎ (v ≡ opposite x.way)
    → IsTrue (leaves n b v) ⊎ IsLocal d → IsTrue (leaves n x.rear x.way) → b ≢ x.rear
    → IsElsewhere d (pair_no b (Out v)) v (pair_of_section x) x.way
out_elsewhere n b x d v (inr other) ok is ne = inr (inl other)
out_elsewhere n b x d v (inl same) (inr here) is ne = inr (inr here)
out_elsewhere n b x d v (inl same) (inl ok) is ne =
    let there : IsTrue (leaves n b x.way) = subst (λ (w : Way). IsTrue (leaves n b w)) same ok in
    inl (subst (λ (w : Way). pair_no b (Out w) ≢ pair_of_section x) (sym same) (out_apart n b x.rear x.way there is ne))

in_elsewhere : (n b : ℕ) (x : Section) (d : Decision) (v : Way) → (v ≡ x.way) ⊎ (v ≡ opposite x.way)
    → IsTrue (comes_in n b v) ⊎ IsLocal d → IsTrue (leaves n x.rear x.way) → b ≢ advance_of x
    → IsElsewhere d (pair_no b (In v)) v (pair_of_section x) x.way
in_elsewhere n b x d v (inr other) ok is ne = inr (inl other)
in_elsewhere n b x d v (inl same) (inr here) is ne = inr (inr here)
in_elsewhere n b x d v (inl same) (inl ok) is ne =
    let there : IsTrue (comes_in n b x.way) = subst (λ (w : Way). IsTrue (comes_in n b w)) same ok in
    inl (subst (λ (w : Way). pair_no b (In w) ≢ pair_of_section x) (sym same) (in_apart n b x.rear x.way there is ne))

-- ---- by the boxes of a call

abbrev reply_at : LineState → ℕ → Way → Decision → Reply
reply_at s q v d = (on_pair v d (pair_at s q)).reply

-- the fact after box b's decision about the word of a link
abbrev LinkAfter : ReplyFact → LineState → ℕ → Section → Link → Decision → Type 0
LinkAfter After s b x l d =
    Holds (After b (reply_at s (pair_no b l) (way_of l) d)) (line_after s b (pair_no b l) (way_of l) d) x

rear_elsewhere : (After : ReplyFact) (s : LineState) (x : Section) (q : ℕ) (v : Way) (d : Decision)
    → x.rear ≢ advance_of x → x.rear < length s.boxes → pair_of_section x < length s.pairs
    → IsElsewhere d q v (pair_of_section x) x.way
    → ThenElsewhere d (λ reply h. Holds (λ r a l k t. After x.rear reply h a l k t) s x)
    → Holds (After x.rear (reply_at s q v d)) (line_after s x.rear q v d) x
rear_elsewhere After s x q v d two b_in p_in off h =
    let pair : PairState = pair_at s q in
    let reply : Reply = (on_pair v d pair).reply in
    let here : BoxState = (on_pair v d pair).here in
    let now = holds_after d v pair (λ reply h. Holds (λ r a l k t. After x.rear reply h a l k t) s x) h in
    let lifted =
    lift_rear_off (λ r a l k t. After x.rear reply here a l k t) s x q v d two b_in p_in off (off_const d _ now) in
    subst (λ (z : BoxState). Holds (λ r a l k t. After x.rear reply z a l k t) (line_after s x.rear q v d) x)
    (sym (get_or-set_same s.boxes x.rear here no_state b_in)) lifted

advance_elsewhere : (After : ReplyFact) (s : LineState) (x : Section) (q : ℕ) (v : Way) (d : Decision)
    → x.rear ≢ advance_of x → advance_of x < length s.boxes → pair_of_section x < length s.pairs
    → IsElsewhere d q v (pair_of_section x) x.way
    → ThenElsewhere d (λ reply h. Holds (λ r a l k t. After (advance_of x) reply r h l k t) s x)
    → Holds (After (advance_of x) (reply_at s q v d)) (line_after s (advance_of x) q v d) x
advance_elsewhere After s x q v d two b_in p_in off h =
    let pair : PairState = pair_at s q in
    let reply : Reply = (on_pair v d pair).reply in
    let here : BoxState = (on_pair v d pair).here in
    let now = holds_after d v pair (λ reply h. Holds (λ r a l k t. After (advance_of x) reply r h l k t) s x) h in
    let lifted =
    lift_advance_off (λ r a l k t. After (advance_of x) reply r here l k t) s x q v d two b_in p_in off
    (off_const d _ now) in
    subst (λ (z : BoxState). Holds (λ r a l k t. After (advance_of x) reply r z l k t)
    (line_after s (advance_of x) q v d) x) (sym (get_or-set_same s.boxes (advance_of x) here no_state b_in)) lifted

rear_out : (Q : Fact) (After : ReplyFact) (plan : PlanFields) (s : LineState) (x : Section) (v : Way) (call : Call)
    → (v ≡ x.way) ⊎ (v ≡ opposite x.way) → HasBoxes (length plan.boxes) x → x.rear < length s.boxes
    → pair_of_section x < length s.pairs
    → link_of (box_plan_of plan x.rear) call.act ≡ Out v → Leads Q After plan x.rear x call → Holds Q s x
    → LinkAfter After s x.rear x (Out v) (decided plan x.rear call (box_at s x.rear))
rear_out Q After plan s x v call (inl same) has b_in p_in e leads h =
    let d : Decision = decided plan x.rear call (box_at s x.rear) in
    let told =
    own_reply d x.way (pair_at s (pair_of_section x))
    (λ reply h l k t. After x.rear reply h (box_at s (advance_of x)) l k t)
    (leads.rear_own refl (e ∙ ap (λ (u : Way). Link.Out u) same) _ _ _ _ _ h) in
    subst (λ (u : Way). LinkAfter After s x.rear x (Out u) d) (sym same)
    (lift_rear_own (After x.rear (reply_at s (pair_of_section x) x.way d)) s x d has.two b_in p_in told)
rear_out Q After plan s x v call (inr other) has b_in p_in e leads h =
    rear_elsewhere After s x (pair_no x.rear (Out v)) v (decided plan x.rear call (box_at s x.rear)) has.two b_in p_in
    (inr (inl other))
    (leads.rear_off refl (λ f. ways_apart v x.way (out_way v x.way (sym e ∙ f)) other) _ _ _ _ _ h)

rear_link : (Q : Fact) (After : ReplyFact) (plan : PlanFields) (s : LineState) (x : Section) (call : Call) (l : Link)
    → IsSection plan x → HasBoxes (length plan.boxes) x → x.rear < length s.boxes → pair_of_section x < length s.pairs
    → link_of (box_plan_of plan x.rear) call.act ≡ l
    → HasLink (length plan.boxes) x.rear l ⊎ IsLocal (decided plan x.rear call (box_at s x.rear))
    → Leads Q After plan x.rear x call → Holds Q s x
    → LinkAfter After s x.rear x l (decided plan x.rear call (box_at s x.rear))
rear_link Q After plan s x call (Out v) is has b_in p_in e ok leads h =
    rear_out Q After plan s x v call (one_way v x.way) has b_in p_in e leads h
rear_link Q After plan s x call (In v) is has b_in p_in e ok leads h =
    let d : Decision = decided plan x.rear call (box_at s x.rear) in
    rear_elsewhere After s x (pair_no x.rear (In v)) v d has.two b_in p_in
    (in_elsewhere (length plan.boxes) x.rear x d v (one_way v x.way) ok is has.two)
    (leads.rear_off refl (λ f. let g : Link.In v ≡ Link.Out x.way = sym e ∙ f in cc) _ _ _ _ _ h)

advance_in : (Q : Fact) (After : ReplyFact) (plan : PlanFields) (s : LineState) (x : Section) (v : Way) (call : Call)
    → (v ≡ x.way) ⊎ (v ≡ opposite x.way) → HasBoxes (length plan.boxes) x → advance_of x < length s.boxes
    → pair_of_section x < length s.pairs
    → link_of (box_plan_of plan (advance_of x)) call.act ≡ In v → Leads Q After plan (advance_of x) x call → Holds Q s x
    → LinkAfter After s (advance_of x) x (In v) (decided plan (advance_of x) call (box_at s (advance_of x)))
advance_in Q After plan s x v call (inl same) has b_in p_in e leads h =
    let a : ℕ = advance_of x in
    let d : Decision = decided plan a call (box_at s a) in
    let F : ℕ → Way → Type 0 = λ q u. Holds (After a (reply_at s q u d)) (line_after s a q u d) x in
    let told =
    own_reply d x.way (pair_at s (pair_of_section x)) (λ reply h l k t. After a reply (box_at s x.rear) h l k t)
    (leads.advance_own refl (e ∙ ap (λ (u : Way). Link.In u) same) _ _ _ _ _ h) in
    let at : F (pair_of_section x) x.way =
    lift_advance_own (After a (reply_at s (pair_of_section x) x.way d)) s x d has.two b_in p_in told in
    let there : F (pair_no a (In x.way)) x.way = subst (λ (q : ℕ). F q x.way) (sym has.same) at in
    subst (λ (u : Way). F (pair_no a (In u)) u) (sym same) there
advance_in Q After plan s x v call (inr other) has b_in p_in e leads h =
    let a : ℕ = advance_of x in
    advance_elsewhere After s x (pair_no a (In v)) v (decided plan a call (box_at s a)) has.two b_in p_in
    (inr (inl other))
    (leads.advance_off refl (λ f. ways_apart v x.way (in_way v x.way (sym e ∙ f)) other) _ _ _ _ _ h)

advance_link : (Q : Fact) (After : ReplyFact) (plan : PlanFields) (s : LineState) (x : Section) (call : Call) (l : Link)
    → IsSection plan x → HasBoxes (length plan.boxes) x → advance_of x < length s.boxes
    → pair_of_section x < length s.pairs
    → link_of (box_plan_of plan (advance_of x)) call.act ≡ l
    → HasLink (length plan.boxes) (advance_of x) l
    ⊎ IsLocal (decided plan (advance_of x) call (box_at s (advance_of x)))
    → Leads Q After plan (advance_of x) x call → Holds Q s x
    → LinkAfter After s (advance_of x) x l (decided plan (advance_of x) call (box_at s (advance_of x)))
advance_link Q After plan s x call (In v) is has b_in p_in e ok leads h =
    advance_in Q After plan s x v call (one_way v x.way) has b_in p_in e leads h
advance_link Q After plan s x call (Out v) is has b_in p_in e ok leads h =
    let a : ℕ = advance_of x in
    let d : Decision = decided plan a call (box_at s a) in
    advance_elsewhere After s x (pair_no a (Out v)) v d has.two b_in p_in
    (out_elsewhere (length plan.boxes) a x d v (one_way v x.way) ok is (λ f. has.two (sym f)))
    (leads.advance_off refl (λ f. let g : Link.Out v ≡ Link.In x.way = sym e ∙ f in cc) _ _ _ _ _ h)

third_link : (Q : Fact) (plan : PlanFields) (s : LineState) (x : Section) (b : ℕ) (d : Decision) (l : Link)
    → IsSection plan x → b ≢ x.rear → b ≢ advance_of x → pair_of_section x < length s.pairs
    → HasLink (length plan.boxes) b l ⊎ IsLocal d
    → Holds Q s x → Holds Q (line_after s b (pair_no b l) (way_of l) d) x
third_link Q plan s x b d (Out v) is nr na p_in ok h =
    lift_third Q s x b (pair_no b (Out v)) v d nr na p_in
    (out_elsewhere (length plan.boxes) b x d v (one_way v x.way) ok is nr) h
third_link Q plan s x b d (In v) is nr na p_in ok h =
    lift_third Q s x b (pair_no b (In v)) v d nr na p_in
    (in_elsewhere (length plan.boxes) b x d v (one_way v x.way) ok is na) h

by_box : (Q : Fact) (After : ReplyFact) (plan : PlanFields) (s : LineState) (b : ℕ) (x : Section) (call : Call)
    → ((eqb b x.rear ≡ true) × (b ≡ x.rear)) ⊎ ((eqb b x.rear ≡ false) × (b ≢ x.rear))
    → ((eqb b (advance_of x) ≡ true) × (b ≡ advance_of x)) ⊎ ((eqb b (advance_of x) ≡ false) × (b ≢ advance_of x))
    → IsSection plan x → HasBoxes (length plan.boxes) x → b < length s.boxes → pair_of_section x < length s.pairs
    → HasLink (length plan.boxes) b (link_of (box_plan_of plan b) call.act) ⊎ IsLocal (decided plan b call (box_at s b))
    → Leads Q After plan b x call → Holds Q s x
    → LinkAfter After s b x (link_of (box_plan_of plan b) call.act) (decided plan b call (box_at s b))
by_box Q After plan s b x call (inl rear) other is has b_in p_in ok leads h =
    let F : ℕ → Type 0 =
    λ k. k < length s.boxes
    → HasLink (length plan.boxes) k (link_of (box_plan_of plan k) call.act)
    ⊎ IsLocal (decided plan k call (box_at s k)) → Leads Q After plan k x call
    → LinkAfter After s k x (link_of (box_plan_of plan k) call.act) (decided plan k call (box_at s k)) in
    subst F (sym rear.1)
    (λ k_in k_ok k_leads. rear_link Q After plan s x call (link_of (box_plan_of plan x.rear) call.act) is has k_in
    p_in refl k_ok k_leads h) b_in ok leads
by_box Q After plan s b x call (inr nr) (inl advance) is has b_in p_in ok leads h =
    let F : ℕ → Type 0 =
    λ k. k < length s.boxes
    → HasLink (length plan.boxes) k (link_of (box_plan_of plan k) call.act)
    ⊎ IsLocal (decided plan k call (box_at s k)) → Leads Q After plan k x call
    → LinkAfter After s k x (link_of (box_plan_of plan k) call.act) (decided plan k call (box_at s k)) in
    subst F (sym advance.1)
    (λ k_in k_ok k_leads. advance_link Q After plan s x call (link_of (box_plan_of plan (advance_of x)) call.act) is
    has k_in p_in refl k_ok k_leads h) b_in ok leads
by_box Q After plan s b x call (inr nr) (inr na) is has b_in p_in ok leads h =
    leads.third nr.1 na.1 _ _ _ _ _ _
    (third_link Q plan s x b (decided plan b call (box_at s b)) (link_of (box_plan_of plan b) call.act) is nr.1 na.1
    p_in ok h)

-- one call of the line leads from the fact to the other
pub step_leads : (Q : Fact) (After : ReplyFact) (plan : PlanFields) (s : LineState) (b : ℕ) (x : Section) (call : Call)
    → IsPlan plan → IsStateOf plan s → IsSection plan x → KnowsCall plan b call → Leads Q After plan b x call
    → Holds Q s x
    → Holds (After b (step plan s b call).reply) (step plan s b call).after x
unfolding step
step_leads Q After plan s b x call is shape in_line known leads h =
    let has = has_boxes (length plan.boxes) x.rear x.way in_line in
    let boxes = shape.boxes in
    let pairs = shape.pairs in
    let box_in = known_box plan b call known in
    let pair_fits = has.pair in
    by_box Q After plan s b x call (eqb_tells b x.rear) (eqb_tells b (advance_of x)) in_line has
    (omega (arith, boxes, box_in)) (omega (arith, pairs, pair_fits)) (known_link plan b call (box_at s b) is known)
    leads h
