-- What a signalman's hand on the bells knows after each of its calls.
use Rattle.std.proofs.Common.{◌≡◌, ℕ, ◌+◌, ◌<◌, ◌≤◌, Bool, true, false, not, ◌&&◌, if◌then◌else◌, inl, inr}
use Rattle.std.proofs.Common.{List, [], ◌∷◌, ◌++◌, length, Option, Some, None, refl, sym, ap, subst, ◌∙◌, arith}
use Rattle.std.proofs.Common.{length-append}
use Rattle.std.specs.Prelude.{◌==◌, IfSome}
use Rattle.std.proofs.lemmas.Bool.Decides.{eqb_tells}
use Rattle.std.proofs.lemmas.List.{get_or-set_same}
use Rattle.block_words.specs.Bells.{bell_code, bell_word}
use Rattle.block_words.specs.declared.Way.{Way}
use Rattle.block_words.specs.declared.Way.TheVariants.{Down}
use Rattle.block_words.specs.declared.WordOp.{WordOp}
use Rattle.block_words.specs.declared.WordOp.TheVariants as ops
use Rattle.line_plan.specs.Plans.{IsPlan, PlanFields}
use Rattle.line_law.specs.declared.call.Act.TheVariants as acts
use Rattle.line_law.specs.declared.call.Call.{Call}
use Rattle.line_law.specs.declared.call.Entry.{Entry}
use Rattle.line_law.specs.declared.link.Link.TheVariants.{Out}
use Rattle.line_law.specs.declared.state.Bell.{Bell}
use Rattle.line_law.specs.declared.state.BoxState.{BoxState}
use Rattle.line_law.specs.Bells.{awaited, heard, rung}
use Rattle.line_law.specs.Decisions.{Told, on_pair}
use Rattle.line_law.specs.History.{entry_of, part_of, state_of}
use Rattle.line_law.specs.Known.{KnowsCall}
use Rattle.line_law.specs.Law.{at_moment, box_plan_of, link_of, pair_of, step}
use Rattle.line_law.specs.Links.{pair_no, way_of}
use Rattle.line_law.specs.SectionFacts.{decided}
use Rattle.line_law.specs.States.{IsStateOf, LineState, box_at, no_state, opening_state, pair_at}
use Rattle.line_law.proofs.Histories.{history_states, state_grows}
use Rattle.line_law.proofs.Opens.{opening_at}
use Rattle.line_law.proofs.Sides.{call_within}
use Rattle.word_laws.specs.WordNumbers.{BellAgrees, IsCodeNo, Word, code_number}
use Rattle.word_laws.proofs.Agreements.{met_agrees}
use Rattle.instrument_rule.specs.declared.view.View.{View}
use Rattle.instrument_rule.specs.Calls.{MayStep, OpFits, Sits}
use Rattle.instrument_rule.specs.Rule.{most_entries}
use Rattle.instrument_rule.specs.Told.{Made, MadeOrSaw, Saw, Tells}
use Rattle.instrument_rule.specs.Views.{caller_of, with_post}
use Rattle.instrument_rule.proofs.Doing.{caller_held}
use Rattle.instrument_rule.proofs.Parts.{eqb_no, eqb_yes, own_box, part_grows}
use Rattle.rule_tests.specs.Hands.{Knows, rung_after}

-- a call at 00:00 that rings a code towards the down side
abbrev pub ring_call : ℕ → Call
ring_call code = record { moment = 0; act = acts.Ring Down code }

-- a call at 00:00 that hears the bell of a side
abbrev pub hear_call : Way → Call
hear_call side = record { moment = 0; act = acts.Hear side }

-- a call at 00:00 that awaits a code on the bell of a side
abbrev pub await_call : Way → ℕ → Call
await_call side code = record { moment = 0; act = acts.AwaitBell side code }

-- ---- what a call needs

-- a seat that holds a box and has fewer than 10000 entries, all at 00:00, may make each call that the plan knows
pub may_step : (plan : PlanFields) (v : View) (r n b : ℕ) (call : Call) → Knows plan v r n → caller_of v.posts ≡ b
    → n < 10000 → KnowsCall plan b call → MayStep plan call v
may_step plan v r n b call k whose few known = record {
  holds = k.holds;
  call_may = record {
    known = subst (λ (c : ℕ). KnowsCall plan c call) (sym whose) known;
    later = subst (λ (m : ℕ). m ≤ call.moment) (sym k.early) (omega arith);
  };
  spare = subst (λ (m : ℕ). m < most_entries) (sym k.counted) few;
}

pub fits_ring : (plan : PlanFields) (v : View) (r n code x y : ℕ) → Knows plan v r n → x ≡ bell_word r 0
    → y ≡ bell_word (r + 1) code → OpFits plan (caller_of v.posts) (ring_call code) (ops.Ring Down x y) v
fits_ring plan v r n code x y k silent sounds =
    let e : bell_word (box_at (state_of plan v.seen) (caller_of v.posts)).rung.down 0 ≡ x =
    ap (λ (m : ℕ). bell_word m 0) k.rung_down ∙ sym silent in
    let f : bell_word ((box_at (state_of plan v.seen) (caller_of v.posts)).rung.down + 1) code ≡ y =
    ap (λ (m : ℕ). bell_word (m + 1) code) k.rung_down ∙ sym sounds in
    inl (λ i. ops.Ring Down (e i) (f i))

pub fits_hear : (plan : PlanFields) (v : View) (side : Way)
    → OpFits plan (caller_of v.posts) (hear_call side) (ops.Hear side) v
fits_hear plan v side = inl refl

pub fits_look : (plan : PlanFields) (v : View) (side : Way) (code : ℕ)
    → OpFits plan (caller_of v.posts) (await_call side code) (ops.LookBell side) v
fits_look plan v side code = inl refl

-- ---- a box after its own call

box_then : (plan : PlanFields) (state : LineState) (b : ℕ) (call : Call) → IsPlan plan → KnowsCall plan b call
    → IsStateOf plan state
    → box_at (step plan state b call).after b
    ≡ (on_pair (way_of (link_of (box_plan_of plan b) call.act)) (decided plan b call (box_at state b))
    (pair_at state (pair_of plan b call))).here
unfolding step
box_then plan state b call is known shape =
    let within = call_within plan b call is known in
    get_or-set_same state.boxes b _ no_state (omega (arith, shape.boxes, within.box))

module _ (plan : PlanFields) (is : IsPlan plan) (v : View) (r n : ℕ) (k : Knows plan v r n) where
  -- a box is as it was seen, after a history that has no other entry of it
  pub same_own : (log : List Entry) → Rattle.instrument_rule.specs.Rule.Seen log v.posts v.seen
      → Rattle.line_law.specs.History.IsLegal plan log
      → box_at (state_of plan log) (caller_of v.posts) ≡ box_at (state_of plan v.seen) (caller_of v.posts)
  same_own log seen legal =
      own_box plan (caller_of v.posts) v.seen log is seen.begins legal
      (seen.own (caller_of v.posts) (caller_held v.posts k.holds))

  pub same_part : (log : List Entry) → Rattle.instrument_rule.specs.Rule.Seen log v.posts v.seen
      → length (part_of (caller_of v.posts) log) ≡ n
  same_part log seen =
      ap (λ (es : List Entry). length es) (seen.own (caller_of v.posts) (caller_held v.posts k.holds)) ∙ k.counted

  -- a look that makes no entry
  pub saw : (word : Word) (l g : ℕ) (room : Option Way) (m : ℕ) (w : View) → Saw plan word l g room v m w
      → Knows plan w r n
  saw word l g room m w s = subst (λ (u : View). Knows plan u r n) (sym s.now) record {
    sits = (k.sits.0, refl);
    holds = k.holds;
    early = ap (λ (b : BoxState). b.moment) (same_own s.log s.met.seen s.met.legal) ∙ k.early;
    rung_down = ap (λ (b : BoxState). b.rung.down) (same_own s.log s.met.seen s.met.legal) ∙ k.rung_down;
    counted = same_part s.log s.met.seen;
    few = k.few;
  }

  -- an entry, after which the box is this one
  pub made : (call : Call) (op : WordOp) (m r' : ℕ) (w : View) (here : BoxState)
      → (t : Made plan (caller_of v.posts) call op v m w) → KnowsCall plan (caller_of v.posts) call
      → (on_pair (way_of (link_of (box_plan_of plan (caller_of v.posts)) call.act))
      (decided plan (caller_of v.posts) call (box_at (state_of plan t.log) (caller_of v.posts)))
      (pair_at (state_of plan t.log) (pair_of plan (caller_of v.posts) call))).here ≡ here
      → here.moment ≡ 0 → here.rung.down ≡ r' → r' ≤ n + 1
      → Knows plan w r' (n + 1) × (box_at (state_of plan w.seen) (caller_of w.posts) ≡ here)
  made call op m r' w here t known is_here early rung_is few =
      subst (λ (u : View). Knows plan u r' (n + 1) × (box_at (state_of plan u.seen) (caller_of u.posts) ≡ here))
      (sym t.now) (
        record {
          sits = (k.sits.0, refl);
          holds = k.holds;
          early = ap (λ (b : BoxState). b.moment) after ∙ early;
          rung_down = ap (λ (b : BoxState). b.rung.down) after ∙ rung_is;
          counted = counts;
          few = few;
        },
        after,
      )
    where
      after : box_at (state_of plan (t.log ++ entry_of plan (state_of plan t.log) (caller_of v.posts) call ∷ []))
          (caller_of v.posts) ≡ here
      after = ap (λ (s : LineState). box_at s (caller_of v.posts))
          (state_grows plan t.log (entry_of plan (state_of plan t.log) (caller_of v.posts) call))
          ∙ (box_then plan (state_of plan t.log) (caller_of v.posts) call is known (history_states plan t.log)
          ∙ is_here)

      counts : length
          (part_of (caller_of v.posts) (t.log ++ entry_of plan (state_of plan t.log) (caller_of v.posts) call ∷ []))
          ≡ n + 1
      counts =
          let p = ap (λ (es : List Entry). length es)
          (part_grows (caller_of v.posts) t.log (entry_of plan (state_of plan t.log) (caller_of v.posts) call)
          refl) in
          let l = length-append (part_of (caller_of v.posts) t.log)
          (entry_of plan (state_of plan t.log) (caller_of v.posts) call ∷ []) in
          let s = same_part t.log t.met.seen in
          omega arith

-- ---- by the bell

-- numbers that are tested equal are equal
pub same_number : (m n : ℕ) → (m == n) ≡ true → m ≡ n
same_number m n h = elim (eqb_tells m n) [ inl t ↦ t.1 | inr t ↦ (let e = t.0 in absurd cc) ]

pick_yes : (t : Bool) (x y : ℕ) → t ≡ true → (if t then x else y) ≡ x
pick_yes true x y h = refl
pick_yes false x y h = absurd cc

pick_no : (t : Bool) (x y : ℕ) → t ≡ false → (if t then x else y) ≡ y
pick_no true x y h = absurd cc
pick_no false x y h = refl

rung_early : (here : BoxState) (code count : ℕ) (u : Option ℕ) → here.moment ≡ 0
    → (rung here Down code count u).here.moment ≡ 0
rung_early here code count None h = h
rung_early here code count (Some held) h = h

rung_count : (here : BoxState) (code count r m : ℕ) (u : Option ℕ) → IfSome u IsCodeNo → count ≡ r
    → here.rung.down ≡ r → m ≡ bell_word count (code_number u)
    → (rung here Down code count u).here.rung.down ≡ rung_after r m
rung_count here code count r m None fits same own met =
    ap (λ (x : ℕ). x + 1) same
    ∙ sym (pick_yes (m == bell_word r 0) (r + 1) r
    (eqb_yes m (bell_word r 0) (met ∙ ap (λ (x : ℕ). bell_word x 0) same)))
rung_count here code count r m (Some held) fits same own met =
    let some : 0 < held = fits.0 in
    own ∙ sym (pick_no (m == bell_word r 0) (r + 1) r (eqb_no m (bell_word r 0) (λ e. omega arith)))

few_after : (r n m : ℕ) → r ≤ n → rung_after r m ≤ n + 1
few_after r n m h = by (m == bell_word r 0)
  where
    by : (t : Bool) → (if t then r + 1 else r) ≤ n + 1
    by true = omega arith
    by false = omega arith

heard_here : (here : BoxState) (count : ℕ) (u : Option ℕ) → (heard here count u).here ≡ here
heard_here here count None = refl
heard_here here count (Some held) = refl

either_here : (t : Bool) (x y : Told Bell) (here : BoxState) → x.here ≡ here → y.here ≡ here
    → (if t then x else y).here ≡ here
either_here true x y here e f = e
either_here false x y here e f = f

awaited_here : (here : BoxState) (code count : ℕ) (u : Option ℕ) → (awaited here code count u).here ≡ here
awaited_here here code count None = refl
awaited_here here code count (Some held) = either_here (held == code) _ _ here refl refl

-- ---- the calls

module _ (plan : PlanFields) (is : IsPlan plan) (v : View) (r n : ℕ) (k : Knows plan v r n) where
  pub rings : (b code x y m : ℕ) (w : View) → caller_of v.posts ≡ b → KnowsCall plan b (ring_call code)
      → Made plan (caller_of v.posts) (ring_call code) (ops.Ring Down x y) v m w → Knows plan w (rung_after r m) (n + 1)
  rings b code x y m w whose known t =
      (made plan is v r n k (ring_call code) (ops.Ring Down x y) m (rung_after r m) w
      (rung here Down code bell.count bell.unheard).here t known' refl
      (rung_early here code bell.count bell.unheard refl)
      (rung_count here code bell.count r m bell.unheard agrees.code (agrees.rung ∙ own) own t.met.found)
      (few_after r n m k.few)).0
    where
      known' : KnowsCall plan (caller_of v.posts) (ring_call code)
      known' = subst (λ (c : ℕ). KnowsCall plan c (ring_call code)) (sym whose) known

      here : BoxState
      here = at_moment (box_at (state_of plan t.log) (caller_of v.posts)) 0

      bell : Bell
      bell = (pair_at (state_of plan t.log) (pair_no (caller_of v.posts) (Out Down))).bells.down

      own : (box_at (state_of plan t.log) (caller_of v.posts)).rung.down ≡ r
      own = ap (λ (b : BoxState). b.rung.down) (same_own plan is v r n k t.log t.met.seen t.met.legal) ∙ k.rung_down

      agrees : BellAgrees (Out Down) (at_moment (box_at (state_of plan t.log) (caller_of v.posts)) 0)
          (pair_at (state_of plan t.log) (pair_no (caller_of v.posts) (Out Down))).bells.down
      agrees = met_agrees plan t.log (caller_of v.posts) (ring_call code) is t.met.legal t.met.few known'

  -- a call that leaves its box as it was
  keeps_box : (call : Call) (op : WordOp) (m : ℕ) (w : View) → call.moment ≡ 0
      → (t : Made plan (caller_of v.posts) call op v m w) → KnowsCall plan (caller_of v.posts) call
      → (on_pair (way_of (link_of (box_plan_of plan (caller_of v.posts)) call.act))
      (decided plan (caller_of v.posts) call (box_at (state_of plan t.log) (caller_of v.posts)))
      (pair_at (state_of plan t.log) (pair_of plan (caller_of v.posts) call))).here
      ≡ at_moment (box_at (state_of plan t.log) (caller_of v.posts)) call.moment
      → Knows plan w r (n + 1)
  keeps_box call op m w early t known stays =
      let own : (box_at (state_of plan t.log) (caller_of v.posts)).rung.down ≡ r =
      ap (λ (b : BoxState). b.rung.down) (same_own plan is v r n k t.log t.met.seen t.met.legal) ∙ k.rung_down in
      let few = k.few in
      (made plan is v r n k call op m r w (at_moment (box_at (state_of plan t.log) (caller_of v.posts)) call.moment) t
      known stays early own (omega arith)).0

  pub hears : (b m : ℕ) (side : Way) (w : View) → caller_of v.posts ≡ b → KnowsCall plan b (hear_call side)
      → Made plan (caller_of v.posts) (hear_call side) (ops.Hear side) v m w → Knows plan w r (n + 1)
  hears b m side w whose known t =
      keeps_box (hear_call side) (ops.Hear side) m w refl t
      (subst (λ (c : ℕ). KnowsCall plan c (hear_call side)) (sym whose) known)
      (heard_here _ _ _)

  looks_on : (d : Bool) (b code m : ℕ) (side : Way) (w : View) → caller_of v.posts ≡ b
      → KnowsCall plan b (await_call side code)
      → MadeOrSaw d plan (await_call side code) (ops.LookBell side) v m w → Knows plan w r (if d then n + 1 else n)
  looks_on true b code m side w whose known t =
      keeps_box (await_call side code) (ops.LookBell side) m w refl t
      (subst (λ (c : ℕ). KnowsCall plan c (await_call side code)) (sym whose) known)
      (awaited_here _ code _ _)
  looks_on false b code m side w whose known t = saw plan is v r n k _ _ _ _ m w t

  pub looks : (last : Bool) (b code m : ℕ) (side : Way) (w : View) → caller_of v.posts ≡ b
      → KnowsCall plan b (await_call side code)
      → Tells plan (await_call side code) (ops.LookBell side) last v m w
      → Knows plan w r (if last && not (bell_code m == code) then n + 1 else n)
  looks last b code m side w whose known t = looks_on (last && not (bell_code m == code)) b code m side w whose known t

-- ---- a box that was drawn and has done nothing

-- a seat that had seen nothing and has drawn a box knows that it has rung no code and has no entry
pub fresh : (plan : PlanFields) (v : View) (b : ℕ) → Sits plan v → v.posts ≡ [] → v.seen ≡ [] → b < length plan.boxes
    → Knows plan (with_post v b) 0 0
fresh plan v b sits free seen within = record {
  sits = sits;
  holds = λ e. absurd cc;
  early = ap (λ (s : BoxState). s.moment) opens;
  rung_down = ap (λ (s : BoxState). s.rung.down) opens;
  counted = ap (λ (es : List Entry). length (part_of b es)) seen;
  few = omega arith;
}
  where
    opens : box_at (state_of plan v.seen) b
        ≡ Rattle.line_law.specs.States.opening_box (length plan.trains) (box_plan_of plan b)
    opens = ap (λ (es : List Entry). box_at (state_of plan es) b) seen ∙ opening_at plan b within
