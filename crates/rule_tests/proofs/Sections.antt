-- Trains that are brought and sent past a starter at danger, and one that comes into its berth.
use Rattle.std.proofs.Common.{◌≡◌, ◌≢◌, ℕ, zero, suc, ◌+◌, ◌-◌, ◌%◌, ◌<◌, ◌≤◌, Bool, true, false, if◌then◌else◌, inl}
use Rattle.std.proofs.Common.{inr, ⊎_elim}
use Rattle.std.proofs.Common.{List, [], ◌∷◌, length, Option, Some, None, refl, sym, ap, subst, ◌∙◌, arith, set, get_or}
use Rattle.std.proofs.Common.{length-set, get_or-set_same, get_or-set_other}
use Rattle.std.specs.Prelude.{nat_lt}
use Rattle.std.proofs.lemmas.List.{length-replicate}
use Rattle.block_words.specs.Sections.{lane, lane_bits, lane_mask}
use Rattle.block_words.specs.declared.Way.TheVariants.{Down}
use Rattle.block_words.specs.declared.WordOp.TheVariants as ops
use Rattle.line_plan.specs.Frames.{BoxFields, berth_of, frame_size, signal_of, way_to}
use Rattle.line_plan.specs.Plans.{IsPlan, PlanFields, train_at}
use Rattle.line_plan.specs.declared.berth.Berth.{Berth}
use Rattle.line_plan.specs.declared.signal.Signal.{Signal}
use Rattle.line_plan.specs.declared.signal.To.{To}
use Rattle.line_law.specs.declared.call.Act.TheVariants as acts
use Rattle.line_law.specs.declared.call.Call.{Call}
use Rattle.line_law.specs.declared.call.Reply.{Reply}
use Rattle.line_law.specs.declared.call.Reply.TheVariants.{AlreadyBrought, Brought}
use Rattle.line_law.specs.declared.link.Link.{Link}
use Rattle.line_law.specs.declared.link.Link.TheVariants.{In, Out}
use Rattle.line_law.specs.declared.state.BoxState.{BoxState}
use Rattle.line_law.specs.declared.state.Passage.{Passage}
use Rattle.line_law.specs.Arrivals.{berth, berth_occupied, berth_refusal, berthed, train_berthed}
use Rattle.line_law.specs.Decisions.{Decision, Here, OnPlainLine, on_pair, or_later, unless}
use Rattle.line_law.specs.History.{state_of}
use Rattle.line_law.specs.Known.{KnowsCall}
use Rattle.line_law.specs.Law.{at_moment, box_plan_of, decide, link_of}
use Rattle.line_law.specs.Levers.{starter_link, starter_way}
use Rattle.line_law.specs.Links.{pair_no, way_of}
use Rattle.line_law.specs.States.{box_at, opening_box, pair_at}
use Rattle.line_law.specs.Tracks.{first_standing, train_on}
use Rattle.line_law.specs.Trains.{bring_refusal, brought_here, end_of, enter, entered, go, holds, left_by, move}
use Rattle.line_law.specs.Trains.{off_refusal}
use Rattle.line_law.specs.Trains.{overrun_refusal, overrun_signal, place_refusal, standing_refusal}
use Rattle.line_law.specs.Ways.{with_way}
use Rattle.line_law.proofs.Opens.{all_one}
use Rattle.word_laws.specs.Footprint.{PlainLineWord, Tally, Kind as WordKind, kind_of as word_kind}
use Rattle.word_laws.specs.Operations.{enter_op, first_by, first_on, look_op, second_on, train_at_signal, train_or_none}
use Rattle.word_laws.specs.WordNumbers.{Agrees, PlainLineAgrees, plain_line_number}
use Rattle.word_laws.proofs.Agreements.{met_agrees}
use Rattle.word_laws.proofs.Lanes.{Full, Next, lane-plain_line_number, next_lane}
use Rattle.instrument_rule.specs.declared.view.View.{View}
use Rattle.instrument_rule.specs.Calls.{MayStep, OpFits}
use Rattle.instrument_rule.specs.Told.{Made, MadeOrSaw, Tells}
use Rattle.instrument_rule.specs.Views.{caller_of}
use Rattle.rule_tests.specs.Hands.{Knows}
use Rattle.rule_tests.specs.Instruments.{Fresh, IsAbsolute}
use Rattle.rule_tests.specs.Sections.{IsStanding, IsStarter, IsWaiting, Stands, Waits}
use Rattle.rule_tests.proofs.Hands.{made, may_step, same_own, saw}

-- a call at 00:00 that brings a train to the box
abbrev pub bring_call : ℕ → Call
bring_call train = record { moment = 0; act = acts.Bring train }

-- a call at 00:00 by which a train passes the signal of a lever at danger
abbrev pub overrun_call : ℕ → Call
overrun_call lever = record { moment = 0; act = acts.Overrun lever }

-- a call at 00:00 by which a train of the down line comes into its berth
abbrev pub berth_call : Call
berth_call = record { moment = 0; act = acts.Berth Down }

abbrev pub await_call : Call
await_call = record { moment = 0; act = acts.AwaitTrain Down }

-- ---- lists

-- a list of one value but at one place has that value everywhere, once it is set there
set_clear : {A : Type 0} (xs : List A) (i j : ℕ) (x : A) → ((k : ℕ) → k ≢ i → get_or xs k x ≡ x)
    → get_or (set xs i x) j x ≡ x
set_clear [] i j x h = refl
set_clear (y ∷ ys) zero zero x h = refl
set_clear (y ∷ ys) zero (suc j) x h = h (suc j) (λ e. omega arith)
set_clear (y ∷ ys) (suc i) zero x h = h zero (λ e. omega arith)
set_clear (y ∷ ys) (suc i) (suc j) x h = set_clear ys i j x (λ k ne. h (suc k) (λ e. ne (omega arith)))

-- ---- a train is brought

kind_unless : (refusal : Option Reply) (here after : BoxState) (reply : Reply)
    → word_kind (unless refusal here (Here reply after)) ≡ Tally
kind_unless None here after reply = refl
kind_unless (Some r) here after reply = refl

-- the operation of a call that brings a train is on the box's own tally
pub fits_bring : (plan : PlanFields) (v : View) (train : ℕ)
    → OpFits plan (caller_of v.posts) (bring_call train) ops.Local v
fits_bring plan v train = inl (ap (λ (k : WordKind). first_on k ops.Local) (kind_unless _ _ _ Brought))

brought_decided : (plan : PlanFields) (bp : BoxFields) (here : BoxState) (place s : ℕ) → Waits here place s
    → (train_at plan.trains (s + 1)).place ≡ place
    → decide plan bp (acts.Bring (s + 1)) here ≡ Here Brought (brought_here here (s + 1) place)
brought_decided plan bp here place s w at =
    let free : bring_refusal here (s + 1) (train_at plan.trains (s + 1)).place ≡ None =
    (λ i. if w.new (s + 1) (omega arith) i then Some AlreadyBrought
    else place_refusal (train_at plan.trains (s + 1)).place (w.clear (train_at plan.trains (s + 1)).place i)) in
    ap (λ (r : Option Reply). unless r here
    (Here Brought (brought_here here (s + 1) (train_at plan.trains (s + 1)).place))) free
    ∙ ap (λ (p : ℕ). Here Brought (brought_here here (s + 1) p)) at

stands_after : (here : BoxState) (place s : ℕ) → Waits here place s → Stands (brought_here here (s + 1) place) place s
stands_after here place s w = record {
  off = w.off;
  there = get_or-set_same here.places place (Some (s + 1)) None w.within;
  others = λ p ne. get_or-set_other here.places place p (Some (s + 1)) None ne ∙ w.clear p;
  within = subst (λ (n : ℕ). place < n) (sym (length-set here.places place (Some (s + 1)))) w.within;
  sent_down = w.sent_down;
  new = λ t above. get_or-set_other here.brought (s + 1 - 1) (t - 1) true false (λ e. omega arith)
      ∙ w.new t (omega arith);
  rung_down = w.rung_down;
}

waits_then : (here other : BoxState) (place s : ℕ) → at_moment here 0 ≡ at_moment other 0 → Waits other place s
    → Waits (at_moment here 0) place s
waits_then here other place s same w = subst (λ (h : BoxState). Waits h place s) (sym same) (record {
  off = w.off;
  clear = w.clear;
  within = w.within;
  sent_down = w.sent_down;
  new = w.new;
  rung_down = w.rung_down;
})

stands_then : (here other : BoxState) (place s : ℕ) → at_moment here 0 ≡ at_moment other 0 → Stands other place s
    → Stands (at_moment here 0) place s
stands_then here other place s same w = subst (λ (h : BoxState). Stands h place s) (sym same) (record {
  off = w.off;
  there = w.there;
  others = w.others;
  within = w.within;
  sent_down = w.sent_down;
  new = w.new;
  rung_down = w.rung_down;
})

module _ (plan : PlanFields) (is : IsPlan plan) (v : View) (place s n : ℕ) where
  pub brings : (m : ℕ) (w : View) → IsWaiting plan v place s n → (train_at plan.trains (s + 1)).place ≡ place
      → KnowsCall plan (caller_of v.posts) (bring_call (s + 1))
      → Made plan (caller_of v.posts) (bring_call (s + 1)) ops.Local v m w → IsStanding plan w place s (n + 1)
  brings m w f at known t =
      let told = made plan is v 0 n f.knows (bring_call (s + 1)) ops.Local m 0 w
      (brought_here (at_moment (box_at (state_of plan t.log) (caller_of v.posts)) 0) (s + 1) place) t known
      (ap (λ (d : Decision).
      (on_pair Down d (pair_at (state_of plan t.log) (pair_no (caller_of v.posts) (In Down)))).here)
      (brought_decided plan (box_plan_of plan (caller_of v.posts))
      (at_moment (box_at (state_of plan t.log) (caller_of v.posts)) 0) place s here at))
      refl here.rung_down (omega arith) in
      record {
        knows = told.0;
        stands =
            subst (λ (h : BoxState). Stands h place s) (sym told.1) (stands_after _ place s here);
      }
    where
      here : Waits (at_moment (box_at (state_of plan t.log) (caller_of v.posts)) 0) place s
      here = waits_then (box_at (state_of plan t.log) (caller_of v.posts))
          (box_at (state_of plan v.seen) (caller_of v.posts))
          place s (ap (λ (h : BoxState). at_moment h 0) (same_own plan is v 0 n f.knows t.log t.met.seen t.met.legal))
          f.waits

-- ---- a train is sent past its starter

module _ (plan : PlanFields) (b lever place s : ℕ) (x : IsStarter plan b lever place) where
  pub its_way : starter_way (signal_of (box_plan_of plan b) lever) ≡ Some Down
  its_way = ap starter_way x.works ∙ ap way_to x.leads_down

  pub its_link : link_of (box_plan_of plan b) (acts.Overrun lever) ≡ Out Down
  its_link = ap starter_link its_way

  pub sent_decided : (here : BoxState) → Stands here place s
      → decide plan (box_plan_of plan b) (acts.Overrun lever) here
      ≡ OnPlainLine (enter here (left_by (box_plan_of plan b) here x.signal) Down (s + 1))
  sent_decided here st =
      ap (λ (o : Option Signal). overrun_signal o (box_plan_of plan b) here) x.works
      ∙ ((λ i. move (train i) (free i) (box_plan_of plan b) here x.signal)
      ∙ ap (λ (t : To). go here (left_by (box_plan_of plan b) here x.signal) (s + 1) t) x.leads_down)
    where
      train : train_on here.places x.signal.from ≡ Some (s + 1)
      train = ap (train_on here.places) x.from ∙ st.there

      free : overrun_refusal here x.signal ≡ None
      free = let o = st.off (x.signal.lever - 1) in let over = x.over in let to = x.leads_down in
          λ i. or_later (off_refusal (o i)) (or_later (standing_refusal (first_standing here.places (over i)))
          (standing_refusal (first_standing here.places (end_of (to i)))))

  pub first_looks : (here : BoxState) → Stands here place s
      → first_on (word_kind (decide plan (box_plan_of plan b) (acts.Overrun lever) here))
      (first_by (box_plan_of plan b) (acts.Overrun lever) here) ≡ ops.LookSection Down
  first_looks here st = let d = sent_decided here st in λ i. first_on (word_kind (d i)) (look_op (its_way i))

  pub then_enters : (here : BoxState) (bits : ℕ) → Stands here place s → bits ≡ lane_bits (s + 1) (s + 1)
      → second_on (word_kind (decide plan (box_plan_of plan b) (acts.Overrun lever) here))
      (enter_op here (train_at_signal here (signal_of (box_plan_of plan b) lever))
      (starter_way (signal_of (box_plan_of plan b) lever)))
      ≡ Some (ops.Enter Down bits)
  then_enters here bits st word =
      let d = sent_decided here st in
      let t : train_on here.places x.signal.from ≡ Some (s + 1) = ap (train_on here.places) x.from ∙ st.there in
      let works = x.works in
      let sent = st.sent_down in
      (λ i. second_on (word_kind (d i)) (enter_op here (train_at_signal here (works i)) (its_way i)))
      ∙ ((λ i. Some (ops.Enter Down (lane_bits (sent i + 1) (train_or_none (t i)))))
      ∙ ap (λ (y : ℕ). Some (ops.Enter Down y)) (sym word))

  waits_after : (here : BoxState) → Stands here place s
      → Waits (record (left_by (box_plan_of plan b) here x.signal) {
        sent = with_way (left_by (box_plan_of plan b) here x.signal).sent Down (s + 1);
      }) place (s + 1)
  waits_after here st = record {
    off = λ at. set_clear here.off (x.signal.lever - 1) at false (λ k ne. st.off k);
    clear = λ p. set_clear here.places x.signal.from p None (λ k ne. st.others k (λ e. ne (e ∙ sym x.from)));
    within = subst (λ (m : ℕ). place < m) (sym (length-set here.places x.signal.from None)) st.within;
    sent_down = refl;
    new = st.new;
    rung_down = st.rung_down;
  }

no_room : (sent : ℕ) (ts : List Passage) (taken m : ℕ) → Rattle.line_law.specs.Lines.AreNumbered taken sent ts
    → length ts ≤ 4
    → Rattle.std.specs.Prelude.All (λ (p : Passage). Rattle.word_laws.specs.WordNumbers.IsTrainNo p.train) ts
    → m ≡ plain_line_number ts → lane m (sent + 1) ≡ 0 → holds ts (sent + 1) ≡ false
no_room sent ts taken m numbered four each met free =
    let l : lane (plain_line_number ts) (sent + 1) ≡ Rattle.word_laws.specs.WordNumbers.lane_of ts ((sent + 1) % 4) =
    lane-plain_line_number ts (sent + 1) each in
    let z : lane (plain_line_number ts) (sent + 1) ≡ 0 = subst (λ (y : ℕ). lane y (sent + 1) ≡ 0) met free in
    ⊎_elim (λ (g : Next sent ts). g.free)
    (λ (f : Full sent ts).
    (let t = f.there in let none : Rattle.word_laws.specs.WordNumbers.lane_of ts ((sent + 1) % 4) ≡ 0 =
    sym l ∙ z in absurd (omega arith)))
    (next_lane taken sent ts numbered four each)

entered_here : (k : ℕ) (here left : BoxState) (train : ℕ) (ts : List Passage) → holds ts k ≡ false
    → (entered k here left Down train ts).here ≡ record left { sent = with_way left.sent Down k }
entered_here k here left train ts h = rw h refl

module _ (plan : PlanFields) (is : IsPlan plan) (v : View) (lever place s n : ℕ)
    (x : IsStarter plan (caller_of v.posts) lever place)
    (f : IsStanding plan v place s n) where
  stands : Stands (at_moment (box_at (state_of plan v.seen) (caller_of v.posts)) 0) place s
  stands = stands_then (box_at (state_of plan v.seen) (caller_of v.posts))
      (box_at (state_of plan v.seen) (caller_of v.posts))
      place s refl f.stands

  pub fits_look : OpFits plan (caller_of v.posts) (overrun_call lever) (ops.LookSection Down) v
  fits_look = inl (first_looks plan (caller_of v.posts) lever place s x _ stands)

  -- the look has found its lane empty
  pub sees : (last : Bool) (m : ℕ) (w : View) → lane m (s + 1) ≡ 0
      → Tells plan (overrun_call lever) (ops.LookSection Down) last v m w
      → IsStanding plan w place s n × (w.room ≡ Some Down) × (caller_of w.posts ≡ caller_of v.posts)
  sees last m w free t = (
    record {
      knows = saw plan is v 0 n f.knows _ _ _ _ m w seen;
      stands = subst (λ (u : View). Stands (box_at (state_of plan u.seen) (caller_of u.posts)) place s) (sym seen.now)
          (subst (λ (h : BoxState). Stands h place s)
          (sym (same_own plan is v 0 n f.knows seen.log seen.met.seen seen.met.legal)) f.stands);
    },
    ap (λ (u : View). u.room) seen.now
        ∙ ap (λ (l : Link). Some (way_of l)) (its_link plan (caller_of v.posts) lever place s x),
    ap (λ (u : View). caller_of u.posts) seen.now,
  )
    where
      undecided : nat_lt 0
          (Rattle.word_laws.specs.Operations.next_lane (at_moment (box_at (state_of plan v.seen) (caller_of v.posts)) 0)
          (way_of (link_of (box_plan_of plan (caller_of v.posts)) (acts.Overrun lever))) m) ≡ false
      undecided =
          ap (λ (l : Link). nat_lt 0
          (Rattle.word_laws.specs.Operations.next_lane (at_moment (box_at (state_of plan v.seen) (caller_of v.posts)) 0)
          (way_of l) m)) (its_link plan (caller_of v.posts) lever place s x)
          ∙ (ap (λ (k : ℕ). nat_lt 0 (lane m (k + 1))) f.stands.sent_down ∙ ap (λ (y : ℕ). nat_lt 0 y) free)

      seen : MadeOrSaw false plan (overrun_call lever) (ops.LookSection Down) v m w
      seen = subst (λ (d : Bool). MadeOrSaw d plan (overrun_call lever) (ops.LookSection Down) v m w) undecided t

  pub fits_enter : (bits : ℕ) → v.room ≡ Some Down → bits ≡ lane_bits (s + 1) (s + 1)
      → OpFits plan (caller_of v.posts) (overrun_call lever) (ops.Enter Down bits) v
  fits_enter bits room word = inr (
    then_enters plan (caller_of v.posts) lever place s x _ bits stands word,
    room ∙ sym (ap (λ (l : Link). Some (way_of l)) (its_link plan (caller_of v.posts) lever place s x)),
  )

  pub enters : (bits m : ℕ) (w : View) → lane m (s + 1) ≡ 0 → KnowsCall plan (caller_of v.posts) (overrun_call lever)
      → Made plan (caller_of v.posts) (overrun_call lever) (ops.Enter Down bits) v m w
      → IsWaiting plan w place (s + 1) (n + 1)
  enters bits m w free known t =
      let told =
      made plan is v 0 n f.knows (overrun_call lever) (ops.Enter Down bits) m 0 w after t known after_is refl
      here.rung_down (omega arith) in
      record {
        knows = told.0;
        waits =
            subst (λ (h : BoxState). Waits h place (s + 1)) (sym told.1)
            (waits_after plan (caller_of v.posts) lever place s x _ here);
      }
    where
      there : BoxState
      there = at_moment (box_at (state_of plan t.log) (caller_of v.posts)) 0

      here : Stands (at_moment (box_at (state_of plan t.log) (caller_of v.posts)) 0) place s
      here = stands_then (box_at (state_of plan t.log) (caller_of v.posts))
          (box_at (state_of plan v.seen) (caller_of v.posts))
          place s (ap (λ (h : BoxState). at_moment h 0) (same_own plan is v 0 n f.knows t.log t.met.seen t.met.legal))
          f.stands

      after : BoxState
      after = record (left_by (box_plan_of plan (caller_of v.posts)) there x.signal) {
        sent = with_way (left_by (box_plan_of plan (caller_of v.posts)) there x.signal).sent Down (s + 1);
      }

      decision : decide plan (box_plan_of plan (caller_of v.posts)) (acts.Overrun lever)
          (at_moment (box_at (state_of plan t.log) (caller_of v.posts)) 0)
          ≡ OnPlainLine (enter (at_moment (box_at (state_of plan t.log) (caller_of v.posts)) 0)
          (left_by (box_plan_of plan (caller_of v.posts))
          (at_moment (box_at (state_of plan t.log) (caller_of v.posts)) 0) x.signal) Down (s + 1))
      decision = sent_decided plan (caller_of v.posts) lever place s x _ here

      agrees : PlainLineAgrees (Out Down) (at_moment (box_at (state_of plan t.log) (caller_of v.posts)) 0)
          (pair_at (state_of plan t.log) (pair_no (caller_of v.posts) (Out Down))).lines.down
      agrees = subst
          (λ (l : Link). Agrees PlainLineWord l (at_moment (box_at (state_of plan t.log) (caller_of v.posts)) 0)
          (pair_at (state_of plan t.log) (pair_no (caller_of v.posts) l)))
          (its_link plan (caller_of v.posts) lever place s x)
          (subst (λ (k : WordKind). Agrees k (link_of (box_plan_of plan (caller_of v.posts)) (acts.Overrun lever))
          (at_moment (box_at (state_of plan t.log) (caller_of v.posts)) 0)
          (pair_at (state_of plan t.log)
          (pair_no (caller_of v.posts) (link_of (box_plan_of plan (caller_of v.posts)) (acts.Overrun lever)))))
          (ap word_kind decision)
          (met_agrees plan t.log (caller_of v.posts) (overrun_call lever) is t.met.legal t.met.few known))

      roomy : holds (pair_at (state_of plan t.log) (pair_no (caller_of v.posts) (Out Down))).lines.down
          ((box_at (state_of plan t.log) (caller_of v.posts)).sent.down + 1) ≡ false
      roomy = no_room (box_at (state_of plan t.log) (caller_of v.posts)).sent.down
          (pair_at (state_of plan t.log) (pair_no (caller_of v.posts) (Out Down))).lines.down agrees.numbered.0 m
          agrees.numbered.1 agrees.four agrees.each t.met.found
          (subst (λ (k : ℕ). lane m (k + 1) ≡ 0) (sym here.sent_down) free)

      after_is : (on_pair (way_of (link_of (box_plan_of plan (caller_of v.posts)) (acts.Overrun lever)))
          (decide plan (box_plan_of plan (caller_of v.posts)) (acts.Overrun lever)
          (at_moment (box_at (state_of plan t.log) (caller_of v.posts)) 0))
          (pair_at (state_of plan t.log)
          (pair_no (caller_of v.posts) (link_of (box_plan_of plan (caller_of v.posts)) (acts.Overrun lever))))).here
          ≡ after
      after_is = let l = its_link plan (caller_of v.posts) lever place s x in
          (λ i. (on_pair (way_of (l i)) (decision i)
          (pair_at (state_of plan t.log) (pair_no (caller_of v.posts) (l i)))).here)
          ∙ (entered_here ((box_at (state_of plan t.log) (caller_of v.posts)).sent.down + 1)
          (at_moment (box_at (state_of plan t.log) (caller_of v.posts)) 0)
          (left_by (box_plan_of plan (caller_of v.posts))
          (at_moment (box_at (state_of plan t.log) (caller_of v.posts)) 0) x.signal)
          (s + 1) (pair_at (state_of plan t.log) (pair_no (caller_of v.posts) (Out Down))).lines.down roomy
          ∙ ap (λ (k : ℕ). record (left_by (box_plan_of plan (caller_of v.posts)) there x.signal) {
            sent = with_way (left_by (box_plan_of plan (caller_of v.posts)) there x.signal).sent Down (k + 1);
          }) here.sent_down)

-- after the look that has found its lane empty
module _ (plan : PlanFields) (is : IsPlan plan) (v : View) (lever place s n : ℕ)
    (x : IsStarter plan (caller_of v.posts) lever place)
    (f : IsStanding plan v place s n) (m : ℕ) (w : View) (free : lane m (s + 1) ≡ 0)
    (t : Tells plan (overrun_call lever) (ops.LookSection Down) true v m w) where
  on : IsStanding plan w place s n × (w.room ≡ Some Down) × (caller_of w.posts ≡ caller_of v.posts)
  on = sees plan is v lever place s n x f true m w free t

  works_on : IsStarter plan (caller_of w.posts) lever place
  works_on = subst (λ (b : ℕ). IsStarter plan b lever place) (sym on.2) x

  pub may_enter : n < 10000 → KnowsCall plan (caller_of v.posts) (overrun_call lever)
      → MayStep plan (overrun_call lever) w
  may_enter few known = may_step plan w 0 n (caller_of v.posts) (overrun_call lever) on.0.knows on.2 few known

  pub fits_then : (bits : ℕ) → bits ≡ lane_bits (s + 1) (s + 1)
      → OpFits plan (caller_of w.posts) (overrun_call lever) (ops.Enter Down bits) w
  fits_then bits word = fits_enter plan is w lever place s n works_on on.0 bits on.1 word

  pub sends : (bits met : ℕ) (u : View) → lane met (s + 1) ≡ 0 → KnowsCall plan (caller_of v.posts) (overrun_call lever)
      → Tells plan (overrun_call lever) (ops.Enter Down bits) true w met u → IsWaiting plan u place (s + 1) (n + 1)
  sends bits met u room known told =
      enters plan is w lever place s n works_on on.0 bits met u room
      (subst (λ (b : ℕ). KnowsCall plan b (overrun_call lever)) (sym on.2) known) told

-- ---- a box that has done nothing

pub opens_waiting : (plan : PlanFields) (v : View) (place : ℕ) → Fresh plan v
    → place < length (box_plan_of plan (caller_of v.posts)).places → IsWaiting plan v place 0 0
opens_waiting plan v place f within = record {
  knows = f.knows;
  waits = subst (λ (h : BoxState). Waits h place 0) (sym f.opens) (record {
    off = λ at. all_one (frame_size (box_plan_of plan (caller_of v.posts)).levers) at false;
    clear = λ p. all_one (length (box_plan_of plan (caller_of v.posts)).places) p None;
    within = subst (λ (m : ℕ). place < m)
        (sym (length-replicate (length (box_plan_of plan (caller_of v.posts)).places) None)) within;
    sent_down = refl;
    new = λ t above. all_one (length plan.trains) (t - 1) false;
    rung_down = refl;
  });
}

-- ---- a train comes into the berth

berth_decided : (plan : PlanFields) (bp : BoxFields) (trains : ℕ) (here : BoxState) (its : Berth)
    → berth_of bp Down ≡ Some its
    → here ≡ at_moment (opening_box trains bp) 0
    → decide plan bp (acts.Berth Down) here ≡ OnPlainLine (berthed here Down its.place)
berth_decided plan bp trains here its there opens =
    ap (λ (o : Option Berth). berth o here Down) there
    ∙ ap (λ (r : Option Reply). unless r here (OnPlainLine (berthed here Down its.place)))
    (subst (λ (h : BoxState). berth_refusal h Down its ≡ None) (sym opens)
    (ap (λ (t : Option ℕ). berth_occupied t) (all_one (length bp.places) its.place None)))

berthed_rung : (t : Option ℕ) (here : BoxState) (place j : ℕ) (ts : List Passage)
    → (train_berthed t here Down place j ts).here.rung.down ≡ here.rung.down
berthed_rung None here place j ts = refl
berthed_rung (Some train) here place j ts = refl

berthed_early : (t : Option ℕ) (here : BoxState) (place j : ℕ) (ts : List Passage)
    → (train_berthed t here Down place j ts).here.moment ≡ here.moment
berthed_early None here place j ts = refl
berthed_early (Some train) here place j ts = refl

module _ (plan : PlanFields) (is : IsPlan plan) (v : View) (f : Fresh plan v) (a : IsAbsolute plan (caller_of v.posts))
  where
    pub fits_berth : (mask : ℕ) → mask ≡ lane_mask 1
        → OpFits plan (caller_of v.posts) berth_call (ops.TakeOut Down mask) v
    fits_berth mask word = inl
        (ap (λ (d : Decision). first_on (word_kind d) (first_by (box_plan_of plan (caller_of v.posts)) (acts.Berth Down)
        (at_moment (box_at (state_of plan v.seen) (caller_of v.posts)) 0)))
        (berth_decided plan (box_plan_of plan (caller_of v.posts)) (length plan.trains) _ a.berth a.there
        (ap (λ (h : BoxState). at_moment h 0) f.opens))
        ∙ (ap (λ (h : BoxState). ops.TakeOut Down (lane_mask (h.incoming.down.taken + 1))) f.opens
        ∙ ap (λ (y : ℕ). ops.TakeOut Down y) (sym word)))

    pub berths : (mask m : ℕ) (w : View) → KnowsCall plan (caller_of v.posts) berth_call
        → Made plan (caller_of v.posts) berth_call (ops.TakeOut Down mask) v m w → Knows plan w 0 1
    berths mask m w known t =
        let same = same_own plan is v 0 0 f.knows t.log t.met.seen t.met.legal ∙ f.opens in
        (made plan is v 0 0 f.knows berth_call (ops.TakeOut Down mask) m 0 w
        (berthed (at_moment (box_at (state_of plan t.log) (caller_of v.posts)) 0) Down a.berth.place
        (pair_at (state_of plan t.log) (pair_no (caller_of v.posts) (In Down))).lines.down).here t known
        (ap (λ (d : Decision).
        (on_pair Down d (pair_at (state_of plan t.log) (pair_no (caller_of v.posts) (In Down)))).here)
        (berth_decided plan (box_plan_of plan (caller_of v.posts)) (length plan.trains) _ a.berth a.there
        (ap (λ (h : BoxState). at_moment h 0) same)))
        (berthed_early _ _ _ _ _) (berthed_rung _ _ _ _ _ ∙ ap (λ (h : BoxState). h.rung.down) same) (omega arith)).0

pub fits_await : (plan : PlanFields) (v : View) → OpFits plan (caller_of v.posts) await_call (ops.LookSection Down) v
fits_await plan v = inl refl
