-- Every call keeps a line of a plan one.
use Rattle.std.proofs.Common.{◌≡◌, ℕ, ◌+◌, ◌-◌, ◌<◌, ◌≤◌, ◌^◌, ◌==◌, Bool, true, false, cond, IsTrue, List, length}
use Rattle.std.proofs.Common.{length-set, sym, ap, subst, ◌∙◌, arith, inl, inr, slice_set, slice_index_or}
use Rattle.std.specs.Prelude.{nat_lt}
use Rattle.std.proofs.lemmas.Bool.{eqb-true}
use Rattle.std.proofs.lemmas.Bool.Decides.{eqb_tells, nat_tests}
use Rattle.std.proofs.lemmas.List.{get_or-set_same, get_or-set_other}
use Rattle.std.proofs.lemmas.List.Elements.{All-get_or}
use Rattle.block_words.specs.declared.Way.{Way}
use Rattle.line_plan.specs.Limits.{most_delay}
use Rattle.line_plan.specs.Plans.{IsPlan, IsTrain, PlanFields, is_train, no_train, train_at}
use Rattle.line_law.specs.declared.call.Act.{Act}
use Rattle.line_law.specs.declared.call.Act.TheVariants as acts
use Rattle.line_law.specs.declared.call.Call.{Call}
use Rattle.line_law.specs.declared.call.Reply.{Reply}
use Rattle.line_law.specs.declared.link.Link.TheVariants.{Out}
use Rattle.line_law.specs.declared.state.BoxState.{BoxState}
use Rattle.line_law.specs.declared.state.PairState.{PairState}
use Rattle.line_law.specs.Known.{KnowsCall, knows_act, moments_of}
use Rattle.line_law.specs.Law.{Done, at_moment, link_of, pair_of, box_plan_of, step, step_at}
use Rattle.line_law.specs.Lines.{HasRoom, IsBoxAfter, IsLineOf, IsPairAfter, IsSectionBetween, PlainState}
use Rattle.line_law.specs.Links.{pair_no, way_of}
use Rattle.line_law.specs.Ready.{FitsHere, IsReady}
use Rattle.line_law.specs.States.{IsStateOf, LineState, box_at, no_state, opening_pair, pair_at}
use Rattle.line_law.specs.Ways.{of_way}
use Rattle.line_law.proofs.Boxes.{box_keeps, later}
use Rattle.line_law.proofs.Found.{both}
use Rattle.line_law.proofs.Numbers.{has_room}
use Rattle.line_law.proofs.Outcomes.{outcome_of}
use Rattle.line_law.proofs.Pairs.{more, pair_keeps}
use Rattle.line_law.proofs.PlanFacts.{known_lever, plan_sound}
use Rattle.line_law.proofs.SectionKeeps.{section_keeps}
use Rattle.line_law.proofs.SectionSteps.{step_keeps}
use Rattle.line_law.proofs.Sides.{call_within, known_parts, out_leaves}

-- ---- what a call needs

train_place : (plan : PlanFields) (b train : ℕ) → IsPlan plan → IsTrue (is_train plan.trains train)
    → (train_at plan.trains train).box_no ≡ b → (train_at plan.trains train).place < length (box_plan_of plan b).places
train_place plan b train is one e =
    let within : train - 1 < length plan.trains =
    (let p = both (nat_lt 0 train) (nat_lt (train - 1) (length plan.trains)) one in grind (arith, nat_tests)) in
    let says : IsTrain plan.classes plan.boxes (train_at plan.trains train) =
    All-get_or (IsTrain plan.classes plan.boxes) plan.trains (train - 1) no_train within is.trains in
    subst (λ (k : ℕ). (train_at plan.trains train).place < length (box_plan_of plan k).places) e says.place

act_fits : (plan : PlanFields) (b : ℕ) (act : Act) → IsPlan plan → b < length plan.boxes → IsTrue (knows_act plan b act)
    → FitsHere plan (box_plan_of plan b) act
act_fits plan b (acts.Pull lever) is within known =
    known_lever (length plan.boxes) b (box_plan_of plan b) lever (is.each b within) known
act_fits plan b (acts.Put lever) is within known =
    known_lever (length plan.boxes) b (box_plan_of plan b) lever (is.each b within) known
act_fits plan b (acts.Bring train) is within known =
    let parts = both (is_train plan.trains train) ((train_at plan.trains train).box_no == b) known in
    (parts.0, train_place plan b train is parts.0 (eqb-true _ _ parts.1))
act_fits plan b act is within known = tt

-- what a known call names is in its box
pub known_fits : (plan : PlanFields) (b : ℕ) (call : Call) → IsPlan plan → KnowsCall plan b call
    → FitsHere plan (box_plan_of plan b) call.act
known_fits plan b call is known = let parts =
    known_parts plan b call known in act_fits plan b call.act is parts.box parts.act

one_limit : (t : Bool) (m n k : ℕ) → m ≤ k → n ≤ k → cond t m n ≤ k
one_limit true m n k h g = h
one_limit false m n k h g = g

few_moments : (version : ℕ) → moments_of version ≤ 86400
few_moments version = one_limit (version == 1) 1440 86400 86400 (omega arith) (omega arith)

few_delay : (version : ℕ) → most_delay version ≤ 3600
few_delay version = one_limit (version == 1) 60 3600 3600 (omega arith) (omega arith)

-- the section that a train may enter
room_at : (plan : PlanFields) (plain : PlainState) (b : ℕ) (call : Call) (way : Way) → IsPlan plan → IsLineOf plan plain
    → KnowsCall plan b call → link_of (box_plan_of plan b) call.act ≡ Out way
    → HasRoom (of_way (box_at plain.line b).sent way) (of_way (pair_at plain.line (pair_of plan b call)).lines way)
room_at plan plain b call way is line known link =
    let parts = known_parts plan b call known in
    let leaves_it = out_leaves plan b call.act way is parts.box parts.act link in
    let says = line.sections (record { rear = b; way = way }) leaves_it in
    let there : pair_no b (Out way) ≡ pair_of plan b call = ap (pair_no b) (sym link) in
    subst (λ (p : ℕ). HasRoom (of_way (box_at plain.line b).sent way) (of_way (pair_at plain.line p).lines way)) there
    (has_room _ _ _ says.numbered says.four)

-- a call that may be made on a line of the plan has what it needs
pub is_ready : (plan : PlanFields) (plain : PlainState) (b : ℕ) (call : Call) → IsPlan plan → IsLineOf plan plain
    → KnowsCall plan b call → plain.calls < 2 ^ 32
    → IsReady plan (box_plan_of plan b) call (box_at plain.line b) (pair_at plain.line (pair_of plan b call))
is_ready plan plain b call is line known few =
    let parts = known_parts plan b call known in
    let box_is = line.boxes b parts.box in
    let pair_is = line.pairs (pair_of plan b call) in
    record {
      sound = plan_sound plan b is parts.box;
      shape = box_is.shape;
      act = known_fits plan b call is known;
      delay = (let d = few_delay plan.version in let m =
          few_moments plan.version in omega (arith, parts.moment, is.delay, d, m));
      bells = λ w. omega (arith, pair_is.bells w, few);
      blocks = λ w. omega (arith, pair_is.blocks w, few);
      sent = λ w. omega (arith, box_is.counts.sent w, few);
      taken = λ w. omega (arith, box_is.counts.taken w, few);
      room = λ way link. room_at plan plain b call way is line known link;
    }

-- ---- a call

-- a box at the moment of a call keeps what it kept
pub box_at_moment : (plan : PlanFields) (b n : ℕ) (here : BoxState) (moment : ℕ)
    → IsBoxAfter plan.trains (box_plan_of plan b) n here
    → IsBoxAfter plan.trains (box_plan_of plan b) n (at_moment here moment)
box_at_moment plan b n here moment is =
    record {
      shape = record {
        frame =
            record { ends = is.shape.frame.ends; off = is.shape.frame.off; places = is.shape.frame.places };
        brought =
            is.shape.brought;
        occupants = is.shape.occupants;
        controls = is.shape.controls;
      };
      arms = is.arms;
      rows = is.rows;
      counts = record { sent = is.counts.sent; taken = is.counts.taken };
    }

-- what each box of a list has after one of them was written
box_set : (P : ℕ → BoxState → Type 0) (boxes : List BoxState) (b : ℕ) (new : BoxState) (other : ℕ) → b < length boxes
    → P b new → P other (slice_index_or boxes other no_state)
    → P other (slice_index_or (slice_set boxes b new) other no_state)
box_set P boxes b new other within here there = elim (eqb_tells other b) [
  | inl same ↦
      let e : slice_index_or (slice_set boxes b new) b no_state ≡ new = get_or-set_same boxes b new no_state within in
      let at : P b (slice_index_or (slice_set boxes b new) b no_state) = subst (λ (x : BoxState). P b x) (sym e) here in
      subst (λ (k : ℕ). P k (slice_index_or (slice_set boxes b new) k no_state)) (sym same.1) at
  | inr differ ↦ subst (λ (x : BoxState). P other x) (sym (get_or-set_other boxes b other new no_state differ.1)) there
]

pair_set : (P : PairState → Type 0) (pairs : List PairState) (p : ℕ) (new : PairState) (other : ℕ) → p < length pairs
    → P new → P (slice_index_or pairs other opening_pair)
    → P (slice_index_or (slice_set pairs p new) other opening_pair)
pair_set P pairs p new other within here there = elim (eqb_tells other p) [
  | inl same ↦
      let e : slice_index_or (slice_set pairs p new) p opening_pair ≡ new =
      get_or-set_same pairs p new opening_pair within in
      subst (λ (k : ℕ). P (slice_index_or (slice_set pairs p new) k opening_pair)) (sym same.1) (subst P (sym e) here)
  | inr differ ↦ subst P (sym (get_or-set_other pairs p other new opening_pair differ.1)) there
]

-- a call keeps the number of boxes and of pairs
pub shape_stays : (plan : PlanFields) (state : LineState) (b : ℕ) (call : Call) → IsStateOf plan state
    → IsStateOf plan (step plan state b call).after
unfolding step
shape_stays plan state b call h =
    let told = step_at plan (box_plan_of plan b) call (box_at state b) (pair_at state (pair_of plan b call)) in
    record {
      boxes = length-set state.boxes b told.here ∙ h.boxes;
      pairs =
          length-set state.pairs (pair_of plan b call) told.word ∙ h.pairs;
    }

boxes_stay : (plan : PlanFields) (plain : PlainState) (b : ℕ) (call : Call) → IsPlan plan → IsLineOf plan plain
    → KnowsCall plan b call → (other : ℕ) → other < length plan.boxes
    → IsBoxAfter plan.trains (box_plan_of plan other) (plain.calls + 1)
    (box_at (step plan plain.line b call).after other)
unfolding step
boxes_stay plan plain b call is line known other within =
    let parts = known_parts plan b call known in
    let here = at_moment (box_at plain.line b) call.moment in
    let pair = pair_at plain.line (pair_of plan b call) in
    let bp = box_plan_of plan b in
    let kept =
    box_keeps plan bp plain.calls here pair (way_of (link_of bp call.act)) call.act _
    (plan_sound plan b is parts.box) (known_fits plan b call is known) (outcome_of plan bp call.act here)
    (line.pairs (pair_of plan b call))
    (box_at_moment plan b plain.calls (box_at plain.line b) call.moment (line.boxes b parts.box)) in
    box_set (λ k x. IsBoxAfter plan.trains (box_plan_of plan k) (plain.calls + 1) x) plain.line.boxes b _ other
    (omega (arith, line.shape.boxes, parts.box)) kept
    (later plan.trains (box_plan_of plan other) plain.calls (box_at plain.line other) (line.boxes other within))

pairs_stay : (plan : PlanFields) (plain : PlainState) (b : ℕ) (call : Call) → IsPlan plan → IsLineOf plan plain
    → KnowsCall plan b call → (other : ℕ)
    → IsPairAfter plan.trains (plain.calls + 1) (pair_at (step plan plain.line b call).after other)
unfolding step
pairs_stay plan plain b call is line known other =
    let within = call_within plan b call is known in
    let here = at_moment (box_at plain.line b) call.moment in
    let pair = pair_at plain.line (pair_of plan b call) in
    let bp = box_plan_of plan b in
    let box_is = box_at_moment plan b plain.calls (box_at plain.line b) call.moment (line.boxes b within.box) in
    let kept =
    pair_keeps plan bp plain.calls here pair (way_of (link_of bp call.act)) call.act _
    (plan_sound plan b is within.box) box_is.shape (outcome_of plan bp call.act here)
    (line.pairs (pair_of plan b call)) in
    pair_set (IsPairAfter plan.trains (plain.calls + 1)) plain.line.pairs (pair_of plan b call) _ other
    (omega (arith, line.shape.pairs, within.pair)) kept
    (more plan.trains plain.calls (pair_at plain.line other) (line.pairs other))

-- every call keeps a line of a plan one
pub stays : (plan : PlanFields) (plain : PlainState) (b : ℕ) (call : Call) → IsPlan plan → IsLineOf plan plain
    → KnowsCall plan b call
    → IsLineOf plan (record { line = (step plan plain.line b call).after; calls = plain.calls + 1 })
stays plan plain b call is line known =
    record {
      shape = shape_stays plan plain.line b call line.shape;
      boxes = boxes_stay plan plain b call is line known;
      pairs = pairs_stay plan plain b call is line known;
      sections =
          λ x in_line. step_keeps (IsSectionBetween x.way) plan plain.line b x call is line.shape in_line known
          (section_keeps plan x call) (line.sections x in_line);
    }

-- the same of a line in one hand
pub goes_on : (plan : PlanFields) (plain : PlainState) (b : ℕ) (call : Call) (reply : Reply) (new : PlainState)
    → IsPlan plan → IsLineOf plan plain → KnowsCall plan b call
    → step plan plain.line b call ≡ record { reply = reply; after = new.line } → new.calls ≡ plain.calls + 1
    → IsLineOf plan new
goes_on plan plain b call reply new is line known told n =
    let kept = stays plan plain b call is line known in
    let ends : (step plan plain.line b call).after ≡ new.line = ap (λ (d : Done). d.after) told in
    subst (λ (m : ℕ). IsLineOf plan (record { line = new.line; calls = m })) (sym n)
    (subst (λ (s : LineState). IsLineOf plan (record { line = s; calls = plain.calls + 1 })) ends kept)
