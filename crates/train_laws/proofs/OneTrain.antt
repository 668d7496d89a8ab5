-- A section in a clean history holds no more trains than it may.
use Rattle.std.proofs.Common.{ℕ, ◌-◌, ◌≡◌, ◌≤◌, List, [], ◌∷◌, ◌++◌, length, Bool, true, false, Option, Some, None}
use Rattle.std.proofs.Common.{IsTrue, refl, ap, subst, arith}
use Rattle.std.specs.Prelude.{◌&&◌, ◌||◌, ◌==◌}
use Rattle.std.specs.List.{list_any}
use Rattle.block_words.specs.declared.Way.{Way}
use Rattle.block_words.specs.declared.Way.TheVariants.{Up, Down}
use Rattle.block_words.specs.declared.WelwynState.TheVariants.{Ready, Given, Berthed}
use Rattle.line_plan.specs.Frames.{BoxFields, berth_of, frame_size, same_way, signal_of}
use Rattle.line_plan.specs.Plans.{IsBox, IsPlan, PlanFields}
use Rattle.line_plan.specs.Sections.{IsSection, advance_of, limit_at, limit_of, most_of, section_berth, section_starter}
use Rattle.line_plan.specs.declared.berth.Berth.{Berth}
use Rattle.line_plan.specs.declared.section.Section.{Section}
use Rattle.line_plan.specs.declared.signal.Signal.{Signal}
use Rattle.line_law.specs.declared.call.Act.{Act}
use Rattle.line_law.specs.declared.call.Act.TheVariants as acts
use Rattle.line_law.specs.declared.call.Call.{Call}
use Rattle.line_law.specs.declared.call.Entry.{Entry}
use Rattle.line_law.specs.declared.call.Reply.{Reply}
use Rattle.line_law.specs.declared.call.Reply.TheVariants as replies
use Rattle.line_law.specs.declared.link.Link.TheVariants.{Out}
use Rattle.line_law.specs.declared.state.BoxState.{BoxState}
use Rattle.line_law.specs.declared.state.Control.{Control}
use Rattle.line_law.specs.declared.state.Control.TheVariants.{Absolute, Permissive}
use Rattle.line_law.specs.declared.state.PairState.{PairState}
use Rattle.train_laws.specs.Authorities.{arm_count, authorities, control_in, count_if, permit_at, permit_of}
use Rattle.line_law.specs.History.{IsLegal, IsLegalFrom, after_entry, state_after, state_of}
use Rattle.line_law.specs.Law.{MayCall, at_moment, decide, box_plan_of, step}
use Rattle.line_law.specs.Known.{knows_act}
use Rattle.line_law.specs.Levers.{starter_way}
use Rattle.line_law.specs.Lines.{FitsLine, IsControlOf}
use Rattle.line_law.specs.Links.{pair_no}
use Rattle.line_law.specs.SectionFacts.{Fact, Holds}
use Rattle.line_law.specs.Sections.{IsClean, berth_count, count_of, held_by, is_overrun, spoils}
use Rattle.line_law.specs.States.{IsStateOf, LineState, control_of, opening_box, opening_control, opening_pair}
use Rattle.line_law.specs.States.{opening_state}
use Rattle.line_law.specs.Ways.{of_way}
use Rattle.train_laws.proofs.GuardedSections.{allowed_by, IsGuarded, advance_at_moment, eased_guarded, elsewhere_weaker}
use Rattle.train_laws.proofs.GuardedSections.{quiet_guarded, rear_at_moment}
use Rattle.train_laws.proofs.OneTrainAdvance.{advance_eased, advance_guarded, other_line_of}
use Rattle.train_laws.proofs.SectionReplies.{Leads, ReplyFact, step_leads}
use Rattle.line_law.proofs.SectionSteps.{HasBoxes, has_boxes}
use Rattle.train_laws.proofs.OneTrainRear.{rear_guarded, rear_quiet}
use Rattle.line_law.proofs.Keeping.{shape_stays}
use Rattle.line_law.proofs.Opens.{all_one, opening_at, opening_pair_at, opening_shape}
use Rattle.line_law.proofs.Outcomes.{outcome_of}
use Rattle.line_law.proofs.Sides.{known_parts}
use Rattle.train_laws.proofs.StarterFacts.{eqb_refl, is_way_of, same_way_refl}

-- ---- what a clean entry isn't

either_false : (a b : Bool) → (a || b) ≡ false → (a ≡ false) × (b ≡ false)
either_false false b e = (refl, e)
either_false true b e = absurd cc

over_clash : (at over other : Bool) → at ≡ true → over ≡ true → ((at && (over && true)) || other) ≡ false → ⊥
over_clash true true other e f fair = cc
over_clash true false other e f fair = cc
over_clash false over other e f fair = cc

part_clash : (first at same : Bool) → at ≡ true → same ≡ true
    → (first || (at && ((same && true) || (false && false)))) ≡ false → ⊥
part_clash true at same e f fair = cc
part_clash false true true e f fair = cc
part_clash false true false e f fair = cc
part_clash false false same e f fair = cc

release_clash : (first at same : Bool) → at ≡ true → same ≡ true
    → (first || (at && ((false && false) || (same && true)))) ≡ false → ⊥
release_clash true at same e f fair = cc
release_clash false true true e f fair = cc
release_clash false true false e f fair = cc
release_clash false false same e f fair = cc

-- the entry of a call of a box of a section, with its reply, doesn't spoil it
abbrev IsFair : PlanFields → Section → ℕ → ℕ → Act → Reply → Type 0
IsFair plan section b moment act reply =
    spoils plan section (record { box_no = b; call = record { moment = moment; act = act }; reply = reply }) ≡ false

no_overrun : (plan : PlanFields) (section : Section) (moment lever k train : ℕ)
    → starter_way (signal_of (box_plan_of plan section.rear) lever) ≡ Some section.way
    → IsFair plan section section.rear moment (acts.Overrun lever) (replies.Entered train k) → ⊥
no_overrun plan section moment lever k train starts fair =
    over_clash (section.rear == section.rear) (is_overrun plan section (acts.Overrun lever))
    ((section.rear == advance_of section) && ((false && false) || (false && false))) (eqb_refl section.rear)
    (is_way_of section.way (starter_way (signal_of (box_plan_of plan section.rear) lever)) starts) fair

no_parting : (plan : PlanFields) (section : Section) (moment j train : ℕ)
    → IsFair plan section (advance_of section) moment (acts.BerthPart section.way) (replies.PartBerthed train j) → ⊥
no_parting plan section moment j train fair =
    part_clash ((advance_of section == section.rear) && (false && false)) (advance_of section == advance_of section)
    (same_way section.way section.way) (eqb_refl (advance_of section)) (same_way_refl section.way) fair

no_release : (plan : PlanFields) (section : Section) (moment : ℕ)
    → IsFair plan section (advance_of section) moment (acts.Release section.way) replies.Released → ⊥
no_release plan section moment fair =
    release_clash ((advance_of section == section.rear) && (false && false)) (advance_of section == advance_of section)
    (same_way section.way section.way) (eqb_refl (advance_of section)) (same_way_refl section.way) fair

-- ---- one call

abbrev Guards : PlanFields → Section → Fact
Guards plan section =
    λ r a l k t. IsGuarded (section_starter plan section) (section_berth plan section) section.way r a k t

abbrev GuardsWhereFair : PlanFields → Section → Call → ReplyFact
GuardsWhereFair plan section call =
    λ b reply r a l k t. IsFair plan section b call.moment call.act reply
    → IsGuarded (section_starter plan section) (section_berth plan section) section.way r a k t

guards_leads : (plan : PlanFields) (section : Section) (b : ℕ) (call : Call) → IsPlan plan → IsSection plan section
    → IsTrue (knows_act plan b call.act)
    → Leads (Guards plan section) (GuardsWhereFair plan section call) plan b section call
guards_leads plan section b call sound is known =
    let n : ℕ = length plan.boxes in
    let r : ℕ = section.rear in
    let a : ℕ = advance_of section in
    let w : Way = section.way in
    let starter : Option Signal = section_starter plan section in
    let berth : Option Berth = section_berth plan section in
    let has : HasBoxes n section = has_boxes n r w is in
    let rear_box : IsBox n r (box_plan_of plan r) = sound.each r has.rear in
    let advance_box : IsBox n a (box_plan_of plan a) = sound.each a has.advance in
    record {
      rear_own = λ here line rear advance l k t g.
          rear_guarded plan n r (box_plan_of plan r) w berth (λ act reply. IsFair plan section r call.moment act reply)
          (at_moment rear call.moment) advance l k t call.act _ rear_box
          (λ lever k train starts. no_overrun plan section call.moment lever k train starts)
          (outcome_of plan (box_plan_of plan r) call.act (at_moment rear call.moment)) line
          (rear_at_moment starter berth w rear advance k t call.moment g);
      rear_off = λ here line rear advance l k t g.
          elsewhere_weaker (decide plan (box_plan_of plan r) call.act (at_moment rear call.moment)) _ _
          (λ reply h quiet fair. quiet_guarded starter berth w (at_moment rear call.moment) h advance k t quiet
          (rear_at_moment starter berth w rear advance k t call.moment g))
          (rear_quiet plan n r (box_plan_of plan r) w (at_moment rear call.moment) call.act _ rear_box
          (outcome_of plan (box_plan_of plan r) call.act (at_moment rear call.moment)) line);
      advance_own = λ here line rear advance l k t g.
          advance_guarded plan a w starter (λ act reply. IsFair plan section a call.moment act reply) rear
          (at_moment advance call.moment) l k t call.act _ sound advance_box
          (subst (λ (x : ℕ). IsTrue (knows_act plan x call.act)) here known)
          (λ j train. no_parting plan section call.moment j train) (no_release plan section call.moment)
          (outcome_of plan (box_plan_of plan a) call.act (at_moment advance call.moment)) line
          (advance_at_moment starter berth w rear advance k t call.moment g);
      advance_off = λ here line rear advance l k t g.
          elsewhere_weaker (decide plan (box_plan_of plan a) call.act (at_moment advance call.moment)) _ _
          (λ reply h eased fair. eased_guarded starter berth w rear (at_moment advance call.moment) h k t eased
          (advance_at_moment starter berth w rear advance k t call.moment g))
          (advance_eased plan a w (at_moment advance call.moment) call.act _ sound advance_box
          (subst (λ (x : ℕ). IsTrue (knows_act plan x call.act)) here known)
          (outcome_of plan (box_plan_of plan a) call.act (at_moment advance call.moment))
          (other_line_of (box_plan_of plan a) w call.act line));
      third = λ nr na reply rear advance l k t g fair. g;
    }

-- the section is guarded in a state
abbrev pub IsGuardedIn : PlanFields → LineState → Section → Type 0
IsGuardedIn plan s section = Holds (Guards plan section) s section

step_guards : (plan : PlanFields) (s : LineState) (section : Section) (e : Entry) → IsPlan plan → IsSection plan section
    → IsStateOf plan s → MayCall plan s e.box_no e.call → e.reply ≡ (step plan s e.box_no e.call).reply
    → spoils plan section e ≡ false
    → IsGuardedIn plan s section → IsGuardedIn plan (after_entry plan s e) section
step_guards plan s section e sound is shape may told fair g =
    let fair_told : IsFair plan section e.box_no e.call.moment e.call.act (step plan s e.box_no e.call).reply =
    subst (λ (reply : Reply). spoils plan section (record { box_no = e.box_no; call = e.call; reply = reply })
    ≡ false) told fair in
    step_leads (Guards plan section) (GuardsWhereFair plan section e.call) plan s e.box_no section e.call sound shape is
    may.known (guards_leads plan section e.box_no e.call sound is (known_parts plan e.box_no e.call may.known).act)
    g fair_told

-- ---- a whole history

history_guards : (plan : PlanFields) (section : Section) (es : List Entry) (s : LineState) → IsPlan plan
    → IsSection plan section → IsStateOf plan s → IsLegalFrom plan s es → IsClean plan section es
    → IsGuardedIn plan s section
    → IsGuardedIn plan (state_after plan s es) section
history_guards plan section [] s sound is shape legal clean g = g
history_guards plan section (e ∷ es) s sound is shape legal clean g =
    let fair = either_false (spoils plan section e) (list_any (spoils plan section) es) clean in
    history_guards plan section es (after_entry plan s e) sound is (shape_stays plan s e.box_no e.call shape) legal.2
    fair.1
    (step_guards plan s section e sound is shape legal.0 legal.1 fair.0 g)

-- ---- the opening

opening_arm : (starter : Option Signal) (trains : ℕ) (box_plan : BoxFields)
    → arm_count starter (opening_box trains box_plan) ≡ 0
opening_arm None trains box_plan = refl
opening_arm (Some s) trains box_plan = ap count_if (all_one (frame_size box_plan.levers) (s.lever - 1) false)

opening_berth : (berth : Option Berth) (trains : ℕ) (box_plan : BoxFields)
    → berth_count berth (opening_box trains box_plan) ≡ 0
opening_berth None trains box_plan = refl
opening_berth (Some b) trains box_plan = ap count_of (all_one {A = Option ℕ} (length box_plan.places) b.place None)

opening_fits : (permissive : Option ℕ) → FitsLine permissive (control_of permissive)
opening_fits None = tt
opening_fits (Some n) = omega arith

opening_kind : (berth : Option Berth) → IsControlOf berth (opening_control berth)
opening_kind None = tt
opening_kind (Some b) = opening_fits b.permissive

opening_parts : (starter : Option Signal) (w : Way) (trains : ℕ) (rear advance : BoxFields)
    → IsGuarded starter (berth_of advance w) w (opening_box trains rear) (opening_box trains advance)
    (of_way opening_pair.blocks w) (of_way opening_pair.lines w)
opening_parts starter Up trains rear advance =
    let arm = opening_arm starter trains rear in
    let there = opening_berth advance.berth_up trains advance in
    record { allowed = omega (arith, arm, there); kind = opening_kind advance.berth_up }
opening_parts starter Down trains rear advance =
    let arm = opening_arm starter trains rear in
    let there = opening_berth advance.berth_down trains advance in
    record { allowed = omega (arith, arm, there); kind = opening_kind advance.berth_down }

along_parts : (starter : Option Signal) (berth : Option Berth) (w : Way) (r r' a a' : BoxState) (p p' : PairState)
    → r' ≡ r → a' ≡ a → p' ≡ p → IsGuarded starter berth w r a (of_way p.blocks w) (of_way p.lines w)
    → IsGuarded starter berth w r' a' (of_way p'.blocks w) (of_way p'.lines w)
along_parts starter berth w r r' a a' p p' er ea ep g = rw (er, ea, ep) g

opening_guards : (plan : PlanFields) (section : Section) → IsPlan plan → IsSection plan section
    → IsGuardedIn plan (opening_state plan) section
opening_guards plan section sound is =
    let has : HasBoxes (length plan.boxes) section = has_boxes (length plan.boxes) section.rear section.way is in
    along_parts (section_starter plan section) (section_berth plan section) section.way _ _ _ _ _ _
    (opening_at plan section.rear has.rear) (opening_at plan (advance_of section) has.advance)
    (opening_pair_at plan (pair_no section.rear (Out section.way)))
    (opening_parts (section_starter plan section) section.way (length plan.trains) (box_plan_of plan section.rear)
    (box_plan_of plan (advance_of section)))

guards : (plan : PlanFields) (es : List Entry) (section : Section) → IsPlan plan → IsSection plan section
    → IsLegal plan es → IsClean plan section es → IsGuardedIn plan (state_of plan es) section
guards plan es section sound is legal clean =
    history_guards plan section es (opening_state plan) sound is (opening_shape plan) legal clean
    (opening_guards plan section sound is)

-- ---- the laws

fits_few : (permissive : Option ℕ) (control : Control) → FitsLine permissive control
    → allowed_by control ≤ most_of permissive
fits_few None (Absolute Ready) k = omega arith
fits_few None (Absolute Given) k = omega arith
fits_few None (Absolute Berthed) k = omega arith
fits_few None (Permissive out) k = absurd k
fits_few (Some n) (Absolute state) k = absurd k
fits_few (Some n) (Permissive out) k = k

-- a control allows no more than the line may hold
allowed_few : (berth : Option Berth) (control : Control) → IsControlOf berth control
    → allowed_by control ≤ limit_at berth
allowed_few None control k = fits_few None control k
allowed_few (Some b) control k = fits_few b.permissive control k

absolute_one : (berth : Option Berth) (control : Control) → permit_at berth ≡ None → IsControlOf berth control
    → allowed_by control ≤ 1
absolute_one None control e k = fits_few None control k
absolute_one (Some b) control e k = let fits : FitsLine None control =
    subst (λ (p : Option ℕ). FitsLine p control) e k in fits_few None control fits

fits_out : (control : Control) (n count : ℕ) → FitsLine (Some n) control → count ≤ allowed_by control
    → (out : ℕ) × (control ≡ Permissive out) × (count ≤ out) × (out ≤ n)
fits_out (Absolute state) n count k h = absurd k
fits_out (Permissive out) n count k h = (out, refl, h, k)

permissive_out : (berth : Option Berth) (control : Control) (n count : ℕ) → permit_at berth ≡ Some n
    → IsControlOf berth control → count ≤ allowed_by control
    → (out : ℕ) × (control ≡ Permissive out) × (count ≤ out) × (out ≤ n)
permissive_out None control n count e k h = absurd cc
permissive_out (Some b) control n count e k h =
    fits_out control n count (subst (λ (p : Option ℕ). FitsLine p control) e k) h

-- a section holds no more trains than it may
pub held_few : (plan : PlanFields) (es : List Entry) (section : Section) → IsPlan plan → IsSection plan section
    → IsLegal plan es → IsClean plan section es → held_by plan (state_of plan es) section ≤ limit_of plan section
held_few plan es section sound is legal clean =
    let g = guards plan es section sound is legal clean in
    let allowed = g.allowed in
    let few = allowed_few (section_berth plan section) (control_in (state_of plan es) section) g.kind in
    omega (arith, allowed, few)

legal_before : (plan : PlanFields) (s : LineState) (es more : List Entry) → IsLegalFrom plan s (es ++ more)
    → IsLegalFrom plan s es
legal_before plan s [] more legal = tt
legal_before plan s (e ∷ es) more legal = (legal.0, legal.1, legal_before plan (after_entry plan s e) es more legal.2)

-- a section that was clean so far holds no more trains than its limit, whatever comes later
pub held_few_before : (plan : PlanFields) (es more : List Entry) (section : Section) → IsPlan plan
    → IsSection plan section → IsLegal plan (es ++ more) → IsClean plan section es
    → held_by plan (state_of plan es) section ≤ limit_of plan section
held_few_before plan es more section sound is legal clean =
    held_few plan es section sound is (legal_before plan (opening_state plan) es more legal) clean

-- at most one authority to enter an absolute section is out
pub one_authority : (plan : PlanFields) (es : List Entry) (section : Section) → IsPlan plan → IsSection plan section
    → IsLegal plan es → IsClean plan section es → permit_of plan section ≡ None
    → authorities plan (state_of plan es) section ≤ 1
one_authority plan es section sound is legal clean absolute =
    let g = guards plan es section sound is legal clean in
    let allowed = g.allowed in
    let few = absolute_one (section_berth plan section) (control_in (state_of plan es) section) absolute g.kind in
    omega (arith, allowed, few)

-- while Welwyn control is ready no authority to enter the section is out
pub none_ready : (plan : PlanFields) (es : List Entry) (section : Section) → IsPlan plan → IsSection plan section
    → IsLegal plan es → IsClean plan section es → control_in (state_of plan es) section ≡ Absolute Ready
    → authorities plan (state_of plan es) section ≡ 0
none_ready plan es section sound is legal clean ready =
    let g = guards plan es section sound is legal clean in
    let allowed = g.allowed in
    let none : allowed_by (control_in (state_of plan es) section) ≡ 0 = ap allowed_by ready in
    omega (arith, allowed, none)

-- no more authorities to enter a permissive section are out than it counts
pub few_out : (plan : PlanFields) (es : List Entry) (section : Section) (n : ℕ) → IsPlan plan → IsSection plan section
    → IsLegal plan es → IsClean plan section es → permit_of plan section ≡ Some n
    → (out : ℕ) × (control_in (state_of plan es) section ≡ Permissive out)
    × (authorities plan (state_of plan es) section ≤ out) × (out ≤ n)
few_out plan es section n sound is legal clean permissive =
    let g = guards plan es section sound is legal clean in
    permissive_out (section_berth plan section) (control_in (state_of plan es) section) n
    (authorities plan (state_of plan es) section) permissive g.kind g.allowed
