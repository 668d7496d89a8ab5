-- Every reply of a legal history tells what is there.
use Rattle.std.proofs.Common.{◌≡◌, ℕ, ◌+◌, ◌<◌, ◌≤◌, ◌++◌, inl, inr, List, [], ◌∷◌, Option, None, All, length, sym}
use Rattle.std.proofs.Common.{subst, arith, slice_set, slice_index_or}
use Rattle.std.proofs.lemmas.Bool.{cases_lt}
use Rattle.std.proofs.lemmas.Bool.Decides.{eqb_tells}
use Rattle.std.proofs.lemmas.List.{get_or-set_same, get_or-set_other, get_or-map, get_or_past, length-map}
use Rattle.std.proofs.lemmas.List.Elements.{All-cons, All-nil}
use Rattle.block_words.specs.declared.Way.TheVariants.{Up, Down}
use Rattle.line_plan.specs.Frames.{BoxFields}
use Rattle.line_plan.specs.Plans.{IsPlan, PlanFields, no_box}
use Rattle.line_plan.specs.declared.berth.Berth.{Berth}
use Rattle.line_law.specs.declared.call.Call.{Call}
use Rattle.line_law.specs.declared.call.Entry.{Entry}
use Rattle.line_law.specs.declared.call.Reply.{Reply}
use Rattle.line_law.specs.declared.state.BoxState.{BoxState}
use Rattle.line_law.specs.declared.state.PairState.{PairState}
use Rattle.line_law.specs.History.{IsLegal, IsLegalFrom, after_entry}
use Rattle.line_law.specs.Known.{KnowsCall}
use Rattle.line_law.specs.Law.{at_moment, pair_of, box_plan_of, step}
use Rattle.line_law.specs.Law.{link_of}
use Rattle.line_law.specs.Lines.{IsLineOf, PlainState}
use Rattle.line_law.specs.Links.{way_of}
use Rattle.line_law.specs.States.{LineState, box_at, no_state, opening_box, opening_line, opening_pair, opening_state}
use Rattle.line_law.specs.States.{pair_at}
use Rattle.line_law.specs.Tellings.{IsTold}
use Rattle.line_law.proofs.Keeping.{box_at_moment, known_fits, stays}
use Rattle.line_law.proofs.Opens.{opening_pair_at, opens}
use Rattle.line_law.proofs.Outcomes.{outcome_of}
use Rattle.line_law.proofs.Sides.{call_within, known_parts}
use Rattle.line_law.proofs.ToldReplies.{told}
use Rattle.line_law.proofs.ToldFacts.{BoxTells, CanTell, LineTells, PairTells}
use Rattle.line_law.proofs.ToldKeeps.{box_tells, pair_tells}

-- each box and each pair has to tell what is there
record StateTells (plan : PlanFields) (state : LineState) : Type 0 where
  boxes : (b : ℕ) → BoxTells plan (box_at state b)
  pairs : (p : ℕ) → PairTells plan (pair_at state p)

-- ---- as a line opens

line_opens : (plan : PlanFields) (b : Option Berth) → LineTells plan (opening_line b)
line_opens plan b = record { ready = tt; portion = tt }

box_opens : (plan : PlanFields) (bp : BoxFields) → BoxTells plan (opening_box (length plan.trains) bp)
box_opens plan bp Up = line_opens plan bp.berth_up
box_opens plan bp Down = line_opens plan bp.berth_down

none_opens : (plan : PlanFields) → BoxTells plan no_state
none_opens plan Up = line_opens plan None
none_opens plan Down = line_opens plan None

boxes_open : (plan : PlanFields) (b : ℕ) → BoxTells plan (box_at (opening_state plan) b)
unfolding opening_state
boxes_open plan b = elim (cases_lt b (length plan.boxes)) [
  | inl lt ↦
      subst (λ (here : BoxState). BoxTells plan here)
      (sym (get_or-map (λ bp. opening_box (length plan.trains) bp) plan.boxes b no_box no_state lt))
      (box_opens plan (box_plan_of plan b))
  | inr le ↦
      let same = length-map plan.boxes (λ bp. opening_box (length plan.trains) bp) in
      subst (λ (here : BoxState). BoxTells plan here) (sym (get_or_past _ b no_state (omega (arith, le, same))))
      (none_opens plan)
]

pair_opens : (plan : PlanFields) → PairTells plan opening_pair
pair_opens plan Up = tt
pair_opens plan Down = tt

state_opens : (plan : PlanFields) → StateTells plan (opening_state plan)
state_opens plan =
    record {
      boxes = boxes_open plan;
      pairs =
          λ p. subst (λ (pair : PairState). PairTells plan pair) (sym (opening_pair_at plan p)) (pair_opens plan);
    }

-- ---- a call

-- what each item of a list has after one of them was written
set_keeps : {A : Type 0} (P : A → Type 0) (xs : List A) (i : ℕ) (x : A) (j : ℕ) (d : A) → i < length xs → P x
    → P (slice_index_or xs j d) → P (slice_index_or (slice_set xs i x) j d)
set_keeps {A} P xs i x j d within new old = elim (eqb_tells j i) [
  | inl same ↦
      let e : slice_index_or (slice_set xs i x) i d ≡ x = get_or-set_same xs i x d within in
      subst (λ (k : ℕ). P (slice_index_or (slice_set xs i x) k d)) (sym same.1) (subst P (sym e) new)
  | inr differ ↦ subst P (sym (get_or-set_other xs i j x d differ.1)) old
]

can_tell : (plan : PlanFields) (plain : PlainState) (b : ℕ) (call : Call) (m : ℕ) → IsPlan plan → IsLineOf plan plain
    → StateTells plan plain.line → KnowsCall plan b call → plain.calls + 1 ≤ m
    → CanTell plan b plain.calls m (at_moment (box_at plain.line b) call.moment)
    (pair_at plain.line (pair_of plan b call))
can_tell plan plain b call m is line tells known few =
    let parts = known_parts plan b call known in
    record {
      calls = few;
      of_plan = is.each b parts.box;
      box = box_at_moment plan b plain.calls (box_at plain.line b) call.moment (line.boxes b parts.box);
      words = line.pairs (pair_of plan b call);
      tells = tells.boxes b;
      shown = tells.pairs (pair_of plan b call);
      moment = parts.moment;
    }

-- the reply of a call that a line of the plan knows
step_told : (plan : PlanFields) (plain : PlainState) (b : ℕ) (call : Call) (m : ℕ) → IsPlan plan → IsLineOf plan plain
    → StateTells plan plain.line → KnowsCall plan b call → plain.calls + 1 ≤ m
    → IsTold plan b m (step plan plain.line b call).reply
unfolding step
step_told plan plain b call m is line tells known few =
    told call.act plan b plain.calls m (at_moment (box_at plain.line b) call.moment)
    (pair_at plain.line (pair_of plan b call)) (way_of (link_of (box_plan_of plan b) call.act))
    (can_tell plan plain b call m is line tells known few) (known_parts plan b call known).act
    (known_fits plan b call is known)

step_tells : (plan : PlanFields) (plain : PlainState) (b : ℕ) (call : Call) → IsPlan plan → IsLineOf plan plain
    → StateTells plan plain.line → KnowsCall plan b call → StateTells plan (step plan plain.line b call).after
unfolding step
step_tells plan plain b call is line tells known =
    let parts = known_parts plan b call known in
    let within = call_within plan b call is known in
    let bp = box_plan_of plan b in
    let p : ℕ = pair_of plan b call in
    let here = at_moment (box_at plain.line b) call.moment in
    let pair = pair_at plain.line p in
    let v = way_of (link_of bp call.act) in
    let outcome = outcome_of plan bp call.act here in
    record {
      boxes = λ other. set_keeps (BoxTells plan) plain.line.boxes b _ other no_state
          (omega (arith, line.shape.boxes, within.box))
          (box_tells plan bp here pair v call.act _ outcome parts.moment (line.pairs p).lines (tells.boxes b))
          (tells.boxes other);
      pairs = λ other. set_keeps (PairTells plan) plain.line.pairs p _ other opening_pair
          (omega (arith, line.shape.pairs, within.pair))
          (pair_tells plan b bp here pair v call.act _ outcome parts.act (tells.pairs p)) (tells.pairs other);
    }

-- ---- histories

-- all replies from a state on, where m calls are no fewer than those to the end
all_from : (plan : PlanFields) (plain : PlainState) (es : List Entry) (m : ℕ) → IsPlan plan → IsLineOf plan plain
    → StateTells plan plain.line → IsLegalFrom plan plain.line es → plain.calls + length es ≤ m
    → All (λ (e : Entry). IsTold plan e.box_no m e.reply) es
all_from plan plain [] m is line tells legal few = All-nil (λ (e : Entry). IsTold plan e.box_no m e.reply)
all_from plan plain (e ∷ es) m is line tells legal few =
    let known = legal.0.known in
    let count : length (e ∷ es) ≡ length es + 1 = omega arith in
    All-cons (λ (x : Entry). IsTold plan x.box_no m x.reply) e es
    (subst (λ (r : Reply). IsTold plan e.box_no m r) (sym legal.1)
    (step_told plan plain e.box_no e.call m is line tells known (omega (arith, few, count))))
    (all_from plan (record { line = after_entry plan plain.line e; calls = plain.calls + 1 }) es m is
    (stays plan plain e.box_no e.call is line known) (step_tells plan plain e.box_no e.call is line tells known)
    legal.2 (omega (arith, few, count)))

-- every reply of a legal history tells what is there, by the number of its entries
pub all_told : (plan : PlanFields) (es : List Entry) → IsPlan plan → IsLegal plan es
    → All (λ (e : Entry). IsTold plan e.box_no (length es) e.reply) es
all_told plan es is legal =
    all_from plan (record { line = opening_state plan; calls = 0 }) es (length es) is (opens plan) (state_opens plan)
    legal (omega arith)

told_from : (plan : PlanFields) (plain : PlainState) (es more : List Entry) (e : Entry) → IsPlan plan
    → IsLineOf plan plain → StateTells plan plain.line → IsLegalFrom plan plain.line (es ++ e ∷ more)
    → IsTold plan e.box_no (plain.calls + length es + 1) e.reply
told_from plan plain [] more e is line tells legal =
    subst (λ (r : Reply). IsTold plan e.box_no (plain.calls + 0 + 1) r) (sym legal.1)
    (step_told plan plain e.box_no e.call (plain.calls + 0 + 1) is line tells legal.0.known (omega arith))
told_from plan plain (f ∷ es) more e is line tells legal =
    let count : plain.calls + 1 + length es + 1 ≡ plain.calls + length (f ∷ es) + 1 = omega arith in
    subst (λ (m : ℕ). IsTold plan e.box_no m e.reply) count
    (told_from plan (record { line = after_entry plan plain.line f; calls = plain.calls + 1 }) es more e is
    (stays plan plain f.box_no f.call is line legal.0.known)
    (step_tells plan plain f.box_no f.call is line tells legal.0.known) legal.2)

-- and so does each, by the number of entries up to and with it
pub each_told : (plan : PlanFields) (es more : List Entry) (e : Entry) → IsPlan plan → IsLegal plan (es ++ e ∷ more)
    → IsTold plan e.box_no (length es + 1) e.reply
each_told plan es more e is legal =
    let count : 0 + length es + 1 ≡ length es + 1 = omega arith in
    subst (λ (m : ℕ). IsTold plan e.box_no m e.reply) count
    (told_from plan (record { line = opening_state plan; calls = 0 }) es more e is (opens plan) (state_opens plan)
    legal)
