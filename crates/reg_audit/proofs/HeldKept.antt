-- The trains of each section, as they are counted, are those that it holds.
use Rattle.std.proofs.Common.{◌≡◌, ◌≢◌, ◌⊎◌, ℕ, ◌+◌, ◌<◌, ◌≤◌, ◌^◌, Bool, true, false, IsTrue, inl, inr, List}
use Rattle.std.proofs.Common.{Option, ◌++◌, length, take, drop, replicate, refl, sym, ap, subst, ◌∙◌, arith}
use Rattle.std.specs.Prelude.{nat_lt, is_some}
use Rattle.std.proofs.lemmas.Bool.{cases_lt}
use Rattle.std.proofs.lemmas.Bool.Decides.{eqb_tells, nat_tests}
use Rattle.std.proofs.lemmas.List.{get_or_past, length-replicate, take_at}
use Rattle.block_words.specs.declared.Position.{Position}
use Rattle.block_words.specs.declared.Way.{Way}
use Rattle.block_words.specs.declared.Way.TheVariants.{Up, Down}
use Rattle.line_plan.specs.Frames.{BoxFields, berth_of, signal_of}
use Rattle.line_plan.specs.Plans.{IsPlan, PlanFields}
use Rattle.line_plan.specs.Sections.{IsSection, advance_of}
use Rattle.line_plan.specs.Ways.{comes_in}
use Rattle.line_plan.specs.declared.section.Section.{Section}
use Rattle.line_plan.specs.declared.signal.Signal.{Signal}
use Rattle.line_law.specs.declared.call.Act.{Act}
use Rattle.line_law.specs.declared.call.Act.TheVariants as acts
use Rattle.line_law.specs.declared.call.Entry.{Entry}
use Rattle.line_law.specs.declared.call.Reply.{Reply}
use Rattle.line_law.specs.declared.call.Reply.TheVariants as replies
use Rattle.line_law.specs.declared.ways.ByWay.{ByWay}
use Rattle.line_law.specs.History.{after_entry, state_of}
use Rattle.line_law.specs.Known.{knows_act}
use Rattle.line_law.specs.Law.{box_plan_of}
use Rattle.line_law.specs.Sections.{held_by}
use Rattle.line_law.specs.States.{LineState, opening_state}
use Rattle.line_law.specs.Ways.{of_way}
use Rattle.line_law.proofs.Found.{both}
use Rattle.line_law.proofs.KeepingLaws.{history_keeps}
use Rattle.line_law.proofs.Opens.{all_one}
use Rattle.line_law.proofs.Sides.{known_parts}
use Rattle.line_report.specs.Between.{CountsOn, MayGain, no_trains, pair_after, section_between}
use Rattle.line_report.specs.Between.{trains_at}
use Rattle.line_report.specs.Gains.{counts_trains, gains, held_after, loses}
use Rattle.line_report.specs.declared.sections.HeldTrains.{HeldTrains}
use Rattle.line_report.proofs.HeldTold.{none_gains, none_loses, third_gains, third_loses}
use Rattle.line_report.proofs.MostTrains.{after_told, opening_held}
use Rattle.line_report.proofs.PairsHeld.{is_between}
use Rattle.train_laws.specs.Authorities.{count_if}
use Rattle.reg_audit.specs.declared.deed.Deed.{Deed}
use Rattle.reg_audit.specs.declared.deed.Deed.TheVariants as deeds
use Rattle.reg_audit.specs.Breaches.{section_into}
use Rattle.reg_audit.specs.Deeds.{deed_by, deed_of, done_if, heard_from, is_berthed, is_rung, is_turned, went_past}
use Rattle.reg_audit.specs.Held.{AreHeld, held_told, pair_into}
use Rattle.reg_audit.specs.Marks.{held_beside}
use Rattle.reg_audit.proofs.Places.{IsNext}

-- ---- before the first entry

none_way : (trains : ByWay HeldTrains) (way : Way) → trains ≡ no_trains → (of_way trains way).now ≡ 0
none_way trains Up e = ap (λ (t : ByWay HeldTrains). t.up.now) e
none_way trains Down e = ap (λ (t : ByWay HeldTrains). t.down.now) e

-- the sections of a line that opens hold no trains
pub held_first : (plan : PlanFields) (n : ℕ) (trains : List (ByWay HeldTrains))
    → n + 1 ≡ length plan.boxes → trains ≡ replicate n no_trains → AreHeld plan (opening_state plan) 0 trains
held_first plan n trains pairs none =
    let each : length trains ≡ n = ap length none ∙ length-replicate n no_trains in
    let at : (p : ℕ) → trains_at trains p ≡ no_trains =
    λ p. ap (λ (ts : List (ByWay HeldTrains)). trains_at ts p) none ∙ all_one n p no_trains in
    record {
      each = omega (arith, each, pairs);
      held = λ p way lt.
          none_way (trains_at trains p) way (at p)
          ∙ sym (opening_held plan (section_between p way)
          (is_between plan p way (omega (arith, lt, each, pairs))));
      few = λ p way lt. let zero = none_way (trains_at trains p) way (at p) in omega (arith, zero);
    }

-- each pair has room for a train more
pub held_room : (plan : PlanFields) (state : LineState) (count : ℕ) (trains : List (ByWay HeldTrains))
    → count + 1 < 2 ^ 32 → AreHeld plan state count trains → (p : ℕ) → MayGain (trains_at trains p)
held_room plan state count trains few h p = elim (cases_lt p (length trains)) [
  | inl within ↦
      let up = h.few p Up within in
      let down = h.few p Down within in
      (omega (arith, up, few), omega (arith, down, few))
  | inr past ↦ rw (get_or_past trains p no_trains past) (omega arith, omega arith)
]

-- ---- one entry more

-- what a section holds after an entry, by what it held before it
held_next : (plan : PlanFields) (es : List Entry) (e : Entry) (section : Section) → IsPlan plan
    → IsSection plan section → IsNext plan es e
    → held_by plan (after_entry plan (state_of plan es) e) section
    ≡ held_after plan section e (held_by plan (state_of plan es) section)
held_next plan es e section is in_line h =
    after_told plan (record { line = state_of plan es; calls = length es }) e section is
    (history_keeps plan es is h.before) in_line h.may h.told

still : (plan : PlanFields) (section : Section) (e : Entry) (n : ℕ) → gains plan section e ≡ false
    → loses plan section e ≡ false → held_after plan section e n ≡ n
still plan section e n no_gain no_loss =
    let gained : count_if (gains plan section e) ≡ 0 = ap count_if no_gain in
    let lost : count_if (loses plan section e) ≡ 0 = ap count_if no_loss in
    omega (arith, gained, lost)

one_at_most : (b : Bool) → count_if b ≤ 1
one_at_most true = omega arith
one_at_most false = omega arith

counted_way : (plan : PlanFields) (e : Entry) (p : ℕ) (way : Way) (old new : ByWay HeldTrains)
    → new ≡ pair_after plan e p old
    → (of_way new way).now ≡ held_after plan (section_between p way) e (of_way old way).now
counted_way plan e p Up old new is = ap (λ (t : ByWay HeldTrains). t.up.now) is
counted_way plan e p Down old new is = ap (λ (t : ByWay HeldTrains). t.down.now) is

-- a box of no pair is neither box of its sections
apart : (b p : ℕ) (way : Way) → p ≢ b → p + 1 ≢ b
    → (b ≢ (section_between p way).rear) × (b ≢ advance_of (section_between p way))
apart b p Up np nq = (λ e. nq (sym e), λ e. np (omega (arith, e)))
apart b p Down np nq = (λ e. np (sym e), λ e. nq (sym e))

beside_or_not : (b p : ℕ) → ((p ≡ b) ⊎ (p + 1 ≡ b)) ⊎ ((p ≢ b) × (p + 1 ≢ b))
beside_or_not b p = elim (eqb_tells p b) [
  | inl same ↦ inl (inl same.1)
  | inr differ ↦ elim (eqb_tells (p + 1) b) [ inl same ↦ inl (inr same.1) | inr other ↦ inr (differ.1, other.1) ]
]

-- the trains of a section, counted on by an entry
now_then : (plan : PlanFields) (e : Entry) (old new : List (ByWay HeldTrains)) (p : ℕ) (way : Way)
    → CountsOn plan e old new → p < length old
    → (of_way (trains_at new p) way).now ≡ held_after plan (section_between p way) e (of_way (trains_at old p) way).now
now_then plan e old new p way counts within = go (counts_trains e.reply) refl where
  go : (told : Bool) → counts_trains e.reply ≡ told → (of_way (trains_at new p) way).now
      ≡ held_after plan (section_between p way) e (of_way (trains_at old p) way).now
  go true is = elim (beside_or_not e.box_no p) [
    | inl near ↦
        counted_way plan e p way (trains_at old p) (trains_at new p) ((counts.beside is).beside p within near)
    | inr others ↦
        let boxes = apart e.box_no p way others.0 others.1 in
        ap (λ (t : ByWay HeldTrains). (of_way t way).now) ((counts.beside is).others p others.0 others.1)
        ∙ sym (still plan (section_between p way) e _
        (third_gains plan (section_between p way) e boxes.0 boxes.1)
        (third_loses plan (section_between p way) e boxes.1))
  ]
  go false is =
      ap (λ (ts : List (ByWay HeldTrains)). (of_way (trains_at ts p) way).now) (counts.none is)
      ∙ sym (still plan (section_between p way) e _ (none_gains plan (section_between p way) e is)
      (none_loses plan (section_between p way) e is))

same_length : (plan : PlanFields) (e : Entry) (old new : List (ByWay HeldTrains)) → CountsOn plan e old new
    → length new ≡ length old
same_length plan e old new counts = go (counts_trains e.reply) refl where
  go : (told : Bool) → counts_trains e.reply ≡ told → length new ≡ length old
  go true is = (counts.beside is).each
  go false is = ap length (counts.none is)

held_more : (plan : PlanFields) (es : List Entry) (count : ℕ) (e : Entry) (old new : List (ByWay HeldTrains))
    → IsPlan plan → IsNext plan es e → CountsOn plan e old new → AreHeld plan (state_of plan es) count old
    → AreHeld plan (after_entry plan (state_of plan es) e) (count + 1) new
held_more plan es count e old new is next counts h =
    let each = same_length plan e old new counts in
    let all = h.each in
    record {
      each = omega (arith, each, all);
      held = λ p way lt.
          let within : p < length old = omega (arith, lt, each) in
          let in_line = is_between plan p way (omega (arith, within, all)) in
          now_then plan e old new p way counts within
          ∙ ap (λ (n : ℕ). held_after plan (section_between p way) e n) (h.held p way within)
          ∙ sym (held_next plan es e (section_between p way) is in_line next);
      few = λ p way lt.
          let within : p < length old = omega (arith, lt, each) in
          let now = now_then plan e old new p way counts within in
          let one = one_at_most (gains plan (section_between p way) e) in
          let before = h.few p way within in
          omega (arith, now, one, before);
    }

-- the same where the trains are written back
pub held_at : (plan : PlanFields) (es : List Entry) (count : ℕ) (e : Entry) (len : ℕ)
    (old new : List (ByWay HeldTrains)) → IsPlan plan → IsNext plan es e → CountsOn plan e old new → len ≡ length old
    → AreHeld plan (state_of plan es) count old
    → AreHeld plan (after_entry plan (state_of plan es) e) (count + 1) (take len (new ++ drop (length new) old))
held_at plan es count e len old new is next counts same h =
    let each = same_length plan e old new counts in
    let written : take len (new ++ drop (length new) old) ≡ new =
    take_at new (drop (length new) old) len (each ∙ sym same) in
    subst (λ (ts : List (ByWay HeldTrains)). AreHeld plan (after_entry plan (state_of plan es) e) (count + 1) ts)
    (sym written) (held_more plan es count e old new is next counts h)

-- ---- the section of a turned line

-- something else than a turn was done
abbrev IsNoTurn : Deed → Type 0
IsNoTurn (deeds.Turned way position) = ⊥
IsNoTurn deed = Unit {0}

no_turn_if : (done : Bool) (deed : Deed) → IsNoTurn deed → IsNoTurn (done_if done deed)
no_turn_if true deed h = h
no_turn_if false deed h = tt

no_turn_heard : (side : Way) (reply : Reply) → IsNoTurn (heard_from side reply)
no_turn_heard side (replies.Heard code k) = tt
no_turn_heard side reply = tt

no_turn_past : (box_plan : BoxFields) (signal : Option Signal) (at_danger : Bool) (reply : Reply)
    → IsNoTurn (went_past box_plan signal at_danger reply)
no_turn_past box_plan signal at_danger (replies.Passed train) = tt
no_turn_past box_plan signal at_danger (replies.Entered train k) = tt
no_turn_past box_plan signal at_danger reply = tt

no_turn : (deed : Deed) (way : Way) (position : Position) → IsNoTurn deed → deed ≡ deeds.Turned way position → ⊥
no_turn deed way position h e = subst IsNoTurn e h

turned_way : (done : Bool) (one way : Way) (given position : Position)
    → done_if done (deeds.Turned one given) ≡ deeds.Turned way position → one ≡ way
turned_way true one way given position e = cc
turned_way false one way given position e = absurd cc

-- a line whose commutator was turned comes in from a neighbour
turned_comes : (plan : PlanFields) (b : ℕ) (act : Act) (reply : Reply) (way : Way) (position : Position)
    → deed_by (box_plan_of plan b) act reply ≡ deeds.Turned way position → IsTrue (knows_act plan b act)
    → IsTrue (comes_in (length plan.boxes) b way)
turned_comes plan b (acts.Turn one given) reply way position e known =
    let same : one ≡ way = turned_way (is_turned reply) one way given position e in
    subst (λ (w : Way). IsTrue (comes_in (length plan.boxes) b w)) same
    (both (comes_in (length plan.boxes) b one) (is_some (berth_of (box_plan_of plan b) one)) known).0
turned_comes plan b (acts.Ring side code) reply way position e known =
    absurd (no_turn _ way position (no_turn_if (is_rung reply) (deeds.Rang side code) tt) e)
turned_comes plan b (acts.Hear side) reply way position e known =
    absurd (no_turn _ way position (no_turn_heard side reply) e)
turned_comes plan b (acts.AwaitBell side code) reply way position e known =
    absurd (no_turn _ way position (no_turn_heard side reply) e)
turned_comes plan b (acts.Pass lever) reply way position e known =
    absurd (no_turn _ way position
    (no_turn_past (box_plan_of plan b) (signal_of (box_plan_of plan b) lever) false reply) e)
turned_comes plan b (acts.Overrun lever) reply way position e known =
    absurd (no_turn _ way position
    (no_turn_past (box_plan_of plan b) (signal_of (box_plan_of plan b) lever) true reply) e)
turned_comes plan b (acts.Berth one) reply way position e known =
    absurd (no_turn _ way position (no_turn_if (is_berthed reply) (deeds.Berthed one) tt) e)
turned_comes plan b (acts.BerthPart one) reply way position e known =
    absurd (no_turn _ way position (no_turn_if _ (deeds.PartBerthed one) tt) e)
turned_comes plan b (acts.Release one) reply way position e known =
    absurd (no_turn _ way position (no_turn_if _ deeds.Released tt) e)
turned_comes plan b act reply way position e known = absurd (no_turn _ way position tt e)

pair_there : (n b : ℕ) (way : Way) → IsTrue (comes_in n b way) → pair_into b way + 1 < n
pair_there n b Up h = grind (arith, nat_tests)
pair_there n b Down h =
    let p = both (nat_lt 0 b) (nat_lt b n) h in
    let low : 0 < b = grind (arith, nat_tests) in
    let high : b < n = grind (arith, nat_tests) in
    omega (arith, low, high)

same_section : (b : ℕ) (way : Way) → section_between (pair_into b way) way ≡ section_into b way
same_section b Up = refl
same_section b Down = refl

held_by_deed : (deed : Deed) (plan : PlanFields) (state : LineState) (count : ℕ) (e : Entry)
    (trains : List (ByWay HeldTrains)) → deed_of plan e ≡ deed → IsTrue (knows_act plan e.box_no e.call.act)
    → AreHeld plan state count trains
    → held_told trains e.box_no deed ≡ held_beside plan state e.box_no deed
held_by_deed (deeds.Turned way position) plan state count e trains is known h =
    let there = pair_there (length plan.boxes) e.box_no way
    (turned_comes plan e.box_no e.call.act e.reply way position is known) in
    let each = h.each in
    h.held (pair_into e.box_no way) way (omega (arith, there, each))
    ∙ ap (λ (section : Section). held_by plan state section) (same_section e.box_no way)
held_by_deed deed plan state count e trains is known h = refl

-- how many trains the section of a turned line holds after the entry
pub held_turned : (plan : PlanFields) (es : List Entry) (count : ℕ) (e : Entry) (trains : List (ByWay HeldTrains))
    → IsNext plan es e → AreHeld plan (after_entry plan (state_of plan es) e) count trains
    → held_told trains e.box_no (deed_of plan e)
    ≡ held_beside plan (after_entry plan (state_of plan es) e) e.box_no (deed_of plan e)
held_turned plan es count e trains next h =
    held_by_deed (deed_of plan e) plan (after_entry plan (state_of plan es) e) count e trains refl
    (known_parts plan e.box_no e.call next.may.known).act h
