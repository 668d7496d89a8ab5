-- Each rule is broken, by the marks, exactly where the entry breaks it.
use Rattle.std.proofs.Common.{◌≡◌, ◌≢◌, ◌⊎◌, ℕ, ◌+◌, Bool, true, false, inl, inr, List, Option, Some, None, take}
use Rattle.std.proofs.Common.{slice_get, refl, sym, subst, ◌∙◌}
use Rattle.std.specs.Prelude.{◌↔◌, ◌==◌, ◌&&◌, ◌||◌, not}
use Rattle.std.proofs.lemmas.Bool.Decides.{eqb_tells}
use Rattle.block_words.specs.Ways.{opposite}
use Rattle.block_words.specs.declared.Position.{Position}
use Rattle.block_words.specs.declared.Position.TheVariants as shows
use Rattle.block_words.specs.declared.Way.{Way}
use Rattle.block_words.specs.declared.Way.TheVariants.{Up, Down}
use Rattle.line_plan.specs.Plans.{PlanFields}
use Rattle.line_law.specs.declared.call.Entry.{Entry}
use Rattle.line_law.specs.declared.ways.ByWay.{ByWay}
use Rattle.line_law.specs.History.{state_of}
use Rattle.line_law.specs.Instruments.{same_position}
use Rattle.line_law.specs.Sections.{held_by}
use Rattle.line_law.specs.States.{box_at}
use Rattle.line_law.specs.Ways.{of_way}
use Rattle.reg_audit.specs.declared.bell.BellKind.TheVariants as kinds
use Rattle.reg_audit.specs.declared.deed.Deed.{Deed}
use Rattle.reg_audit.specs.declared.deed.Deed.TheVariants as deeds
use Rattle.reg_audit.specs.declared.marks.SideMarks.{SideMarks}
use Rattle.reg_audit.specs.declared.rule.Rule.{Rule}
use Rattle.reg_audit.specs.declared.rule.Rule.TheVariants as rules
use Rattle.reg_audit.specs.Bells.{IsUnprompted, bell_on, call_attention, heard, rung, train_entering_section}
use Rattle.reg_audit.specs.Bells.{train_out_of_section}
use Rattle.reg_audit.specs.Breaches.{Breaks, BreaksBerth, BreaksClear, BreaksEntering, BreaksNormal, BreaksOffer}
use Rattle.reg_audit.specs.Breaches.{BreaksOut, HasSince, IsEntered, IsOffered, IsTurned, berthed_by, entered_by}
use Rattle.reg_audit.specs.Breaches.{is_divided, passes_danger, section_into}
use Rattle.reg_audit.specs.Deeds.{deed_of}
use Rattle.reg_audit.specs.Marks.{breaks_berth, breaks_entering, breaks_turning, held_beside, is_bell, is_broken}
use Rattle.reg_audit.specs.Marks.{is_of_class, is_release, side_breaks_offer, side_breaks_out, unprompted}
use Rattle.reg_audit.proofs.Commutators.{shown_in}
use Rattle.reg_audit.proofs.LastBells.{bell_here, bell_tells, done_here, done_there, unprompted_is}
use Rattle.reg_audit.proofs.SideKept.{AreMarks, both_true, class_of, of_class, position_tells, unprompted_code}

-- ---- tests

not_from : (test : Bool) → (test ≡ true → ⊥) → not test ≡ true
not_from true f = absurd (f refl)
not_from false f = refl

not_then : (test : Bool) → not test ≡ true → test ≡ true → ⊥
not_then true e f = absurd cc
not_then false e f = absurd cc

and_from : (one other : Bool) → one ≡ true → other ≡ true → (one && other) ≡ true
and_from true true e f = refl
and_from true false e f = absurd cc
and_from false other e f = absurd cc

or_then : (one other : Bool) → (one || other) ≡ true → (one ≡ true) ⊎ (other ≡ true)
or_then true other e = inl refl
or_then false other e = inr e

or_left : (one other : Bool) → one ≡ true → (one || other) ≡ true
or_left true other e = refl
or_left false other e = absurd cc

or_right : (one other : Bool) → other ≡ true → (one || other) ≡ true
or_right true other e = refl
or_right false other e = e

-- ---- an entry, by the marks of its box

-- the marks of both sides of box b are those of the journal before this place
abbrev pub HasMarks : PlanFields → List Entry → ℕ → ℕ → ByWay SideMarks → Type 0
HasMarks plan es b i marks = (side : Way) → AreMarks plan es b side i (of_way marks side)

-- the marks that go with an incoming line are those of the side from which it comes
offered_on : (plan : PlanFields) (es : List Entry) (b i : ℕ) (marks : ByWay SideMarks) → HasMarks plan es b i marks
    → (way : Way) → ((of_way marks (opposite way)).offered ≡ true
    ↔ HasSince (IsTurned plan es b way shows.LineClear) (IsOffered plan es b (opposite way)) i)
offered_on plan es b i marks has Up = (has Down).offered
offered_on plan es b i marks has Down = (has Up).offered

shown_on : (plan : PlanFields) (es : List Entry) (b i : ℕ) (marks : ByWay SideMarks) → HasMarks plan es b i marks
    → (way : Way) → (of_way marks (opposite way)).shown ≡ shown_in way (box_at (state_of plan (take i es)) b)
shown_on plan es b i marks has Up = (has Down).shown
shown_on plan es b i marks has Down = (has Up).shown

-- ---- offer

offer_breaks : (plan : PlanFields) (es : List Entry) (i : ℕ) (e : Entry) (marks : ByWay SideMarks) (side : Way)
    → slice_get es i ≡ Some e → HasMarks plan es e.box_no i marks
    → side_breaks_offer plan side (deed_of plan e) (of_way marks side) ≡ true → BreaksOffer plan es e.box_no i
offer_breaks plan es i e marks side at has f =
    let last = (of_way marks side).last_bell in
    let new = unprompted last (bell_on side (deed_of plan e)) in
    let parts = both_true (is_of_class plan kinds.Rung new) (not (is_bell last (heard call_attention))) f in
    let h = of_class plan kinds.Rung new parts.0 in
    record {
      side = side;
      code = h.code;
      class = h.class;
      offers = (unprompted_is plan es e.box_no side i (bell_on side (deed_of plan e)) last
          (bell_here plan es side i e at) (has side).last_bell (rung h.code)).0 h.is;
      unasked = λ asked.
          not_then (is_bell last (heard call_attention)) parts.1
          ((bell_tells last (heard call_attention)).1 (((has side).last_bell (heard call_attention)).1 asked));
    }

breaks_offer_side : (plan : PlanFields) (es : List Entry) (i : ℕ) (e : Entry) (marks : ByWay SideMarks)
    → slice_get es i ≡ Some e → HasMarks plan es e.box_no i marks → (h : BreaksOffer plan es e.box_no i)
    → side_breaks_offer plan h.side (deed_of plan e) (of_way marks h.side) ≡ true
breaks_offer_side plan es i e marks at has h =
    let last = (of_way marks h.side).last_bell in
    let new = unprompted last (bell_on h.side (deed_of plan e)) in
    and_from (is_of_class plan kinds.Rung new) (not (is_bell last (heard call_attention)))
    (class_of plan kinds.Rung new (record {
      code = h.code;
      class = h.class;
      is = (unprompted_is plan es e.box_no h.side i (bell_on h.side (deed_of plan e)) last
          (bell_here plan es h.side i e at) (has h.side).last_bell (rung h.code)).1 h.offers;
    }))
    (not_from (is_bell last (heard call_attention)) (λ f.
    h.unasked (((has h.side).last_bell (heard call_attention)).0
    ((bell_tells last (heard call_attention)).0 f))))

-- a rule of one side or the other
either_side : (one other : Bool) (P : Type 0) → (one ≡ true → P) → (other ≡ true → P) → (one || other) ≡ true → P
either_side one other P f g e = elim (or_then one other e) [ inl left ↦ f left | inr right ↦ g right ]

on_side : (test : Way → Bool) (side : Way) → test side ≡ true → (test Up || test Down) ≡ true
on_side test Up e = or_left (test Up) (test Down) e
on_side test Down e = or_right (test Up) (test Down) e

offer_tells : (plan : PlanFields) (es : List Entry) (i : ℕ) (e : Entry) (marks : ByWay SideMarks) (held : ℕ)
    → slice_get es i ≡ Some e → HasMarks plan es e.box_no i marks
    → (is_broken plan marks held (deed_of plan e) rules.Offer ≡ true ↔ BreaksOffer plan es e.box_no i)
offer_tells plan es i e marks held at has = (
  λ f. either_side (side_breaks_offer plan Up (deed_of plan e) marks.up)
      (side_breaks_offer plan Down (deed_of plan e) marks.down) (BreaksOffer plan es e.box_no i)
      (λ up. offer_breaks plan es i e marks Up at has up) (λ down. offer_breaks plan es i e marks Down at has down) f,
  λ h. on_side (λ side. side_breaks_offer plan side (deed_of plan e) (of_way marks side)) h.side
      (breaks_offer_side plan es i e marks at has h),
)

-- ---- out

out_breaks : (plan : PlanFields) (es : List Entry) (i : ℕ) (e : Entry) (marks : ByWay SideMarks) (side : Way)
    → slice_get es i ≡ Some e → HasMarks plan es e.box_no i marks
    → side_breaks_out side (deed_of plan e) (of_way marks side) ≡ true → BreaksOut plan es e.box_no i
out_breaks plan es i e marks side at has f =
    let mine = of_way marks side in
    let rings = is_bell (unprompted mine.last_bell (bell_on side (deed_of plan e))) (rung train_out_of_section) in
    let parts = both_true rings (not mine.left) f in
    record {
      side = side;
      tells = (unprompted_code plan es e.box_no side i (bell_on side (deed_of plan e)) mine.last_bell
          (bell_here plan es side i e at) (has side).last_bell (rung train_out_of_section)).0 parts.0;
      unleft = λ since. not_then mine.left parts.1 ((has side).left.1 since);
    }

breaks_out_side : (plan : PlanFields) (es : List Entry) (i : ℕ) (e : Entry) (marks : ByWay SideMarks)
    → slice_get es i ≡ Some e → HasMarks plan es e.box_no i marks → (h : BreaksOut plan es e.box_no i)
    → side_breaks_out h.side (deed_of plan e) (of_way marks h.side) ≡ true
breaks_out_side plan es i e marks at has h =
    let mine = of_way marks h.side in
    and_from (is_bell (unprompted mine.last_bell (bell_on h.side (deed_of plan e))) (rung train_out_of_section))
    (not mine.left)
    ((unprompted_code plan es e.box_no h.side i (bell_on h.side (deed_of plan e)) mine.last_bell
    (bell_here plan es h.side i e at) (has h.side).last_bell (rung train_out_of_section)).1 h.tells)
    (not_from mine.left (λ f. h.unleft ((has h.side).left.0 f)))

out_tells : (plan : PlanFields) (es : List Entry) (i : ℕ) (e : Entry) (marks : ByWay SideMarks) (held : ℕ)
    → slice_get es i ≡ Some e → HasMarks plan es e.box_no i marks
    → (is_broken plan marks held (deed_of plan e) rules.Out ≡ true ↔ BreaksOut plan es e.box_no i)
out_tells plan es i e marks held at has = (
  λ f. either_side (side_breaks_out Up (deed_of plan e) marks.up) (side_breaks_out Down (deed_of plan e) marks.down)
      (BreaksOut plan es e.box_no i) (λ up. out_breaks plan es i e marks Up at has up)
      (λ down. out_breaks plan es i e marks Down at has down) f,
  λ h. on_side (λ side. side_breaks_out side (deed_of plan e) (of_way marks side)) h.side
      (breaks_out_side plan es i e marks at has h),
)

-- ---- clear and normal

-- what the deed is at a place where the commutator was turned
turned_there : (plan : PlanFields) (es : List Entry) (i : ℕ) (e : Entry) (way : Way) (position : Position)
    → slice_get es i ≡ Some e → IsTurned plan es e.box_no way position i
    → deed_of plan e ≡ deeds.Turned way position
turned_there plan es i e way position at h =
    (done_there plan es e.box_no (λ deed. deed ≡ deeds.Turned way position) i e at h).1

turned_here : (plan : PlanFields) (es : List Entry) (i : ℕ) (e : Entry) (way : Way) (position : Position)
    → slice_get es i ≡ Some e → deeds.Turned way position ≡ deed_of plan e
    → IsTurned plan es e.box_no way position i
turned_here plan es i e way position at is =
    done_here plan es (λ deed. deed ≡ deeds.Turned way position) i e at (sym is)

clear_here : (plan : PlanFields) (es : List Entry) (i : ℕ) (e : Entry) (marks : ByWay SideMarks) (way : Way)
    → slice_get es i ≡ Some e → HasMarks plan es e.box_no i marks
    → deeds.Turned way shows.LineClear ≡ deed_of plan e
    → (not (of_way marks (opposite way)).offered ≡ true ↔ BreaksClear plan es e.box_no i)
clear_here plan es i e marks way at has is =
    let offered = (of_way marks (opposite way)).offered in
    let on = offered_on plan es e.box_no i marks has in (
      λ f. record {
        way = way;
        turned = turned_here plan es i e way shows.LineClear at is;
        unoffered = λ since. not_then offered f ((on way).1 since);
      },
      λ h.
          let there = turned_there plan es i e h.way shows.LineClear at h.turned in
          let same : h.way ≡ way = cc in
          not_from offered (λ f. h.unoffered (subst (λ (w : Way).
          HasSince (IsTurned plan es e.box_no w shows.LineClear) (IsOffered plan es e.box_no (opposite w)) i)
          (sym same) ((on way).0 f))),
    )

-- the deed isn't a turn to Line Clear
clear_not : (plan : PlanFields) (es : List Entry) (i : ℕ) (e : Entry) → slice_get es i ≡ Some e
    → ((way : Way) → deed_of plan e ≢ deeds.Turned way shows.LineClear)
    → (false ≡ true ↔ BreaksClear plan es e.box_no i)
clear_not plan es i e at other =
    (λ f. absurd cc, λ h. absurd (other h.way (turned_there plan es i e h.way shows.LineClear at h.turned)))

clear_tells : (deed : Deed) (plan : PlanFields) (es : List Entry) (i : ℕ) (e : Entry) (marks : ByWay SideMarks)
    (held : ℕ) → slice_get es i ≡ Some e → HasMarks plan es e.box_no i marks → deed ≡ deed_of plan e
    → (breaks_turning marks held rules.Clear deed ≡ true ↔ BreaksClear plan es e.box_no i)
clear_tells (deeds.Turned way shows.LineClear) plan es i e marks held at has is =
    clear_here plan es i e marks way at has is
clear_tells deed plan es i e marks held at has is = clear_not plan es i e at (λ way f. cc)

number_not : (n : ℕ) → (not (n == 0) ≡ true ↔ n ≢ 0)
number_not n = elim (eqb_tells n 0) [
  | inl zero ↦ (λ f. absurd (not_then (n == 0) f zero.0), λ h. absurd (h zero.1))
  | inr other ↦ (λ f. other.1, λ h. rw other.0 refl)
]

normal_here : (plan : PlanFields) (es : List Entry) (i : ℕ) (e : Entry) (held : ℕ) (way : Way)
    → slice_get es i ≡ Some e → deeds.Turned way shows.Normal ≡ deed_of plan e
    → held ≡ held_by plan (state_of plan (take (i + 1) es)) (section_into e.box_no way)
    → (not (held == 0) ≡ true ↔ BreaksNormal plan es e.box_no i)
normal_here plan es i e held way at is holds = (
  λ f. record {
    way = way;
    turned = turned_here plan es i e way shows.Normal at is;
    held = subst (λ (n : ℕ). n ≢ 0) holds ((number_not held).0 f);
  },
  λ h.
      let there = turned_there plan es i e h.way shows.Normal at h.turned in
      let same : h.way ≡ way = cc in
      (number_not held).1 (subst (λ (n : ℕ). n ≢ 0) (sym holds)
      (subst (λ (w : Way). held_by plan (state_of plan (take (i + 1) es)) (section_into e.box_no w) ≢ 0) same h.held)),
)

normal_not : (plan : PlanFields) (es : List Entry) (i : ℕ) (e : Entry) → slice_get es i ≡ Some e
    → ((way : Way) → deed_of plan e ≢ deeds.Turned way shows.Normal)
    → (false ≡ true ↔ BreaksNormal plan es e.box_no i)
normal_not plan es i e at other =
    (λ f. absurd cc, λ h. absurd (other h.way (turned_there plan es i e h.way shows.Normal at h.turned)))

normal_tells : (deed : Deed) (plan : PlanFields) (es : List Entry) (i : ℕ) (e : Entry) (marks : ByWay SideMarks)
    (held : ℕ) → slice_get es i ≡ Some e → deed ≡ deed_of plan e
    → held ≡ held_beside plan (state_of plan (take (i + 1) es)) e.box_no deed
    → (breaks_turning marks held rules.Normal deed ≡ true ↔ BreaksNormal plan es e.box_no i)
normal_tells (deeds.Turned way shows.Normal) plan es i e marks held at is holds =
    normal_here plan es i e held way at is holds
normal_tells deed plan es i e marks held at is holds = normal_not plan es i e at (λ way f. cc)

-- ---- entering and berth

entering_tells : (entered : Option Way) (plan : PlanFields) (es : List Entry) (i : ℕ) (e : Entry)
    (marks : ByWay SideMarks) → slice_get es i ≡ Some e → HasMarks plan es e.box_no i marks
    → entered_by (deed_of plan e) ≡ entered
    → (breaks_entering marks entered ≡ true ↔ BreaksEntering plan es e.box_no i)
entering_tells None plan es i e marks at has is = (
  λ f. absurd cc,
  λ h.
      let there = (done_there plan es e.box_no (λ deed. entered_by deed ≡ Some h.way) i e at h.entered).1 in
      absurd cc,
)
entering_tells (Some way) plan es i e marks at has is =
    let entering = (of_way marks way).entering in (
      λ f. record {
        way = way;
        entered = done_here plan es (λ deed. entered_by deed ≡ Some way) i e at is;
        unrung = λ since. not_then entering f ((has way).entering.1 since);
      },
      λ h.
          let there = (done_there plan es e.box_no (λ deed. entered_by deed ≡ Some h.way) i e at h.entered).1 in
          let same : h.way ≡ way = cc in
          not_from entering (λ f. h.unrung (subst (λ (w : Way). HasSince (IsEntered plan es e.box_no w)
          (IsUnprompted plan es e.box_no w (rung train_entering_section)) i) (sym same) ((has way).entering.0 f))),
    )

berth_tells : (berthed : Option Way) (plan : PlanFields) (es : List Entry) (i : ℕ) (e : Entry)
    (marks : ByWay SideMarks) → slice_get es i ≡ Some e → HasMarks plan es e.box_no i marks
    → berthed_by (deed_of plan e) ≡ berthed
    → (breaks_berth marks berthed ≡ true ↔ BreaksBerth plan es e.box_no i)
berth_tells None plan es i e marks at has is = (
  λ f. absurd cc,
  λ h.
      let there = (done_there plan es e.box_no (λ deed. berthed_by deed ≡ Some h.way) i e at h.berthed).1 in
      absurd cc,
)
berth_tells (Some way) plan es i e marks at has is =
    let shown = (of_way marks (opposite way)).shown in
    let told = shown_on plan es e.box_no i marks has in (
      λ f. record {
        way = way;
        berthed = done_here plan es (λ deed. berthed_by deed ≡ Some way) i e at is;
        shown = λ same.
            not_then (same_position shown shows.TrainOnLine) f
            ((position_tells shown shows.TrainOnLine).1 (told way ∙ same));
      },
      λ h.
          let there = (done_there plan es e.box_no (λ deed. berthed_by deed ≡ Some h.way) i e at h.berthed).1 in
          let same : h.way ≡ way = cc in
          not_from (same_position shown shows.TrainOnLine) (λ f.
          h.shown (subst (λ (w : Way).
          shown_in w (box_at (state_of plan (take i es)) e.box_no) ≡ shows.TrainOnLine) (sym same)
          (sym (told way) ∙ (position_tells shown shows.TrainOnLine).0 f))),
    )

-- ---- every rule

release_tells : (deed : Deed) → (is_release deed ≡ true ↔ deed ≡ deeds.Released)
release_tells deeds.Released = (λ f. refl, λ f. refl)
release_tells deed = (λ f. absurd cc, λ f. absurd cc)

-- the test of a rule tells whether the entry breaks it
pub rule_tells : (plan : PlanFields) (es : List Entry) (i : ℕ) (e : Entry) (marks : ByWay SideMarks) (held : ℕ)
    (rule : Rule) → slice_get es i ≡ Some e → HasMarks plan es e.box_no i marks
    → held ≡ held_beside plan (state_of plan (take (i + 1) es)) e.box_no (deed_of plan e)
    → (is_broken plan marks held (deed_of plan e) rule ≡ true ↔ Breaks plan es rule e.box_no i)
rule_tells plan es i e marks held rules.Offer at has holds = offer_tells plan es i e marks held at has
rule_tells plan es i e marks held rules.Clear at has holds =
    clear_tells (deed_of plan e) plan es i e marks held at has refl
rule_tells plan es i e marks held rules.Entering at has holds =
    entering_tells (entered_by (deed_of plan e)) plan es i e marks at has refl
rule_tells plan es i e marks held rules.Berth at has holds =
    berth_tells (berthed_by (deed_of plan e)) plan es i e marks at has refl
rule_tells plan es i e marks held rules.Out at has holds = out_tells plan es i e marks held at has
rule_tells plan es i e marks held rules.Normal at has holds =
    normal_tells (deed_of plan e) plan es i e marks held at refl holds
rule_tells plan es i e marks held rules.Danger at has holds = (
  λ f. done_here plan es (λ deed. passes_danger deed ≡ true) i e at f,
  λ h. (done_there plan es e.box_no (λ deed. passes_danger deed ≡ true) i e at h).1,
)
rule_tells plan es i e marks held rules.Divided at has holds = (
  λ f. done_here plan es (λ deed. is_divided deed ≡ true) i e at f,
  λ h. (done_there plan es e.box_no (λ deed. is_divided deed ≡ true) i e at h).1,
)
rule_tells plan es i e marks held rules.Release at has holds = (
  λ f. done_here plan es (λ deed. deed ≡ deeds.Released) i e at ((release_tells (deed_of plan e)).0 f),
  λ h. (release_tells (deed_of plan e)).1
      (done_there plan es e.box_no (λ deed. deed ≡ deeds.Released) i e at h).1,
)

-- whichever box breaks a rule at a place, it is the one whose entry stands there
pub breaks_box : (plan : PlanFields) (es : List Entry) (i : ℕ) (e : Entry) (b : ℕ) (rule : Rule)
    → slice_get es i ≡ Some e → Breaks plan es rule b i → e.box_no ≡ b
breaks_box plan es i e b rules.Offer at h =
    (done_there plan es b (λ deed. bell_on h.side deed ≡ Some (rung h.code)) i e at h.offers.is).0
breaks_box plan es i e b rules.Clear at h =
    (done_there plan es b (λ deed. deed ≡ deeds.Turned h.way shows.LineClear) i e at h.turned).0
breaks_box plan es i e b rules.Entering at h =
    (done_there plan es b (λ deed. entered_by deed ≡ Some h.way) i e at h.entered).0
breaks_box plan es i e b rules.Berth at h =
    (done_there plan es b (λ deed. berthed_by deed ≡ Some h.way) i e at h.berthed).0
breaks_box plan es i e b rules.Out at h =
    (done_there plan es b (λ deed. bell_on h.side deed ≡ Some (rung train_out_of_section)) i e at h.tells.is).0
breaks_box plan es i e b rules.Normal at h =
    (done_there plan es b (λ deed. deed ≡ deeds.Turned h.way shows.Normal) i e at h.turned).0
breaks_box plan es i e b rules.Danger at h = (done_there plan es b (λ deed. passes_danger deed ≡ true) i e at h).0
breaks_box plan es i e b rules.Divided at h = (done_there plan es b (λ deed. is_divided deed ≡ true) i e at h).0
breaks_box plan es i e b rules.Release at h = (done_there plan es b (λ deed. deed ≡ deeds.Released) i e at h).0

-- where a rule is broken an entry stands
pub breaks_at : (plan : PlanFields) (es : List Entry) (i b : ℕ) (rule : Rule) → Breaks plan es rule b i
    → (e : Entry) × (slice_get es i ≡ Some e)
breaks_at plan es i b rules.Offer h = (h.offers.is.entry, h.offers.is.at)
breaks_at plan es i b rules.Clear h = (h.turned.entry, h.turned.at)
breaks_at plan es i b rules.Entering h = (h.entered.entry, h.entered.at)
breaks_at plan es i b rules.Berth h = (h.berthed.entry, h.berthed.at)
breaks_at plan es i b rules.Out h = (h.tells.is.entry, h.tells.is.at)
breaks_at plan es i b rules.Normal h = (h.turned.entry, h.turned.at)
breaks_at plan es i b rules.Danger h = (h.entry, h.at)
breaks_at plan es i b rules.Divided h = (h.entry, h.at)
breaks_at plan es i b rules.Release h = (h.entry, h.at)
