-- Men who are stopped call in vain, however often.
use Rattle.std.proofs.Common.{◌≡◌, ℕ, false, IsTrue, List, [], ◌∷◌, Some, length}
use Rattle.std.proofs.Common.{slice_set, slice_index_or, refl, sym, ap, subst, ◌∙◌, arith, inl, inr}
use Rattle.std.proofs.lemmas.Bool.{cases_lt}
use Rattle.std.proofs.lemmas.Bool.Decides.{eqb_tells}
use Rattle.std.proofs.lemmas.List.{length-set, get_or-set_same, get_or-set_other, set_past}
use Rattle.std.proofs.lemmas.List.Elements.{All-nil, All-cons, All-head, All-tail}
use Rattle.line_plan.specs.Plans.{PlanFields}
use Rattle.line_law.specs.declared.call.Call.{Call}
use Rattle.line_law.specs.declared.call.Entry.{Entry}
use Rattle.line_law.specs.declared.call.Reply.{Reply}
use Rattle.line_law.specs.declared.call.Reply.TheVariants as replies
use Rattle.line_law.specs.declared.state.BoxState.{BoxState}
use Rattle.line_law.specs.declared.state.PairState.{PairState}
use Rattle.line_law.specs.Decisions.{on_pair}
use Rattle.line_law.specs.History.{IsLegalFrom, after_entry, state_after}
use Rattle.line_law.specs.Law.{MayCall, at_moment, box_plan_of, decide, link_of, pair_of, step}
use Rattle.line_law.specs.Links.{way_of}
use Rattle.line_law.specs.Refusals.{is_held_by_instrument, is_refused, with_moment}
use Rattle.line_law.specs.Serial.{AreCalls, AreLeft, calls_left, is_not_yet}
use Rattle.line_law.specs.States.{IsStateOf, LineState, box_at, no_state, opening_pair, pair_at}
use Rattle.line_law.proofs.Left.{moment_here, other_box}
use Rattle.line_law.proofs.RefusalLaws.{refusal_leaves}
use Rattle.line_law.proofs.Keeping.{shape_stays}
use Rattle.line_law.proofs.Sides.{known_box}
use Rattle.line_rehearsal.specs.Stops.{AreInVain, AreNextCalls, AreStopped, IsStopped, SameButMoments}
use Rattle.serial_working.specs.Rosters.{head_of}
use Rattle.serial_working.proofs.SerialTurns.{may_look}

-- ---- states that are the same but for last moments

same_state : (state : LineState) → SameButMoments state state
same_state state = record { pairs = refl; count = refl; boxes = λ b. refl }

same_then : (a b c : LineState) → SameButMoments a b → SameButMoments b c → SameButMoments a c
same_then a b c h k =
    record {
      pairs = k.pairs ∙ h.pairs;
      count = k.count ∙ h.count;
      boxes = λ i. ap (λ (x : BoxState). at_moment x (box_at a i).moment) (k.boxes i) ∙ h.boxes i;
    }

moment_set : (boxes : List BoxState) (b c moment : ℕ)
    → at_moment (slice_index_or (slice_set boxes b (at_moment (slice_index_or boxes b no_state) moment)) c no_state)
    (slice_index_or boxes c no_state).moment ≡ slice_index_or boxes c no_state
moment_set boxes b c moment = elim (cases_lt b (length boxes)) [
  | inl lt ↦ elim (eqb_tells c b) [
    | inl same ↦ rw (same.1, get_or-set_same boxes b _ no_state lt) refl
    | inr differ ↦ rw (get_or-set_other boxes b c _ no_state differ.1) refl
  ]
  | inr le ↦ rw (set_past boxes b _ le) refl
]

same_with_moment : (state : LineState) (b : ℕ) (call : Call) → SameButMoments state (with_moment state b call)
same_with_moment state b call =
    record {
      pairs = refl;
      count = length-set state.boxes b _;
      boxes = λ c. moment_set state.boxes b c call.moment;
    }

-- every call gets the same reply in both
same_answer : (plan : PlanFields) (old new : LineState) (b : ℕ) (call : Call) → SameButMoments old new
    → (step plan new b call).reply ≡ (step plan old b call).reply
unfolding step
same_answer plan old new b call h =
    let bp = box_plan_of plan b in
    let p = pair_of plan b call in
    let here : at_moment (box_at new b) call.moment ≡ at_moment (box_at old b) call.moment =
    ap (λ (x : BoxState). at_moment x call.moment) (h.boxes b) in
    ap (λ (x : BoxState). (on_pair (way_of (link_of bp call.act)) (decide plan bp call.act x) (pair_at new p)).reply)
    here
    ∙ ap (λ (pairs : List PairState). (on_pair (way_of (link_of bp call.act))
    (decide plan bp call.act (at_moment (box_at old b) call.moment)) (slice_index_or pairs p opening_pair)).reply)
    h.pairs

stopped_still : (plan : PlanFields) (old new : LineState) (left : List (List Call)) → AreStopped plan old left
    → SameButMoments old new → AreStopped plan new left
stopped_still plan old new left s h = λ b. go b (calls_left left b) (s b) where
  go : (b : ℕ) (calls : List Call) → IsStopped plan old b calls → IsStopped plan new b calls
  go b [] t = tt
  go b (call ∷ calls) t =
      subst (λ (reply : Reply). IsTrue (is_not_yet reply)) (sym (same_answer plan old new b call h)) t

-- ---- an await in vain

await_refused : (reply : Reply) → IsTrue (is_not_yet reply)
    → IsTrue (is_refused reply) × (is_held_by_instrument reply ≡ false)
await_refused (replies.BellNotYet shown k) h = (refl, refl)
await_refused (replies.BlockNotYet shown v) h = (refl, refl)
await_refused (replies.TrainNotYet j) h = (refl, refl)
await_refused reply h = absurd cc

await_leaves : (plan : PlanFields) (state : LineState) (b : ℕ) (call : Call)
    → IsTrue (is_not_yet (step plan state b call).reply) → (step plan state b call).after ≡ with_moment state b call
await_leaves plan state b call h =
    let refused = await_refused (step plan state b call).reply h in
    refusal_leaves plan state b call refused.0 refused.1

next_stopped : (plan : PlanFields) (state : LineState) (b : ℕ) (calls : List Call) (call : Call)
    → IsStopped plan state b calls → head_of calls ≡ Some call → IsTrue (is_not_yet (step plan state b call).reply)
next_stopped plan state b [] call s e = absurd cc
next_stopped plan state b (first ∷ calls) call s e =
    let same : first ≡ call = cc in
    subst (λ (c : Call). IsTrue (is_not_yet (step plan state b c).reply)) same s

-- where every box is stopped, the boxes' next calls are awaits in vain, however often they are made
pub in_vain : (plan : PlanFields) (state : LineState) (left : List (List Call)) (es : List Entry)
    → AreStopped plan state left → AreNextCalls left es → IsLegalFrom plan state es → AreInVain plan state left es
in_vain plan state left [] s n l =
    record { replies = All-nil (λ (e : Entry). IsTrue (is_not_yet e.reply)); same = same_state state; stopped = s }
in_vain plan state left (e ∷ es) s n l =
    let next = All-head (λ (d : Entry). head_of (calls_left left d.box_no) ≡ Some d.call) e es n in
    let others = All-tail (λ (d : Entry). head_of (calls_left left d.box_no) ≡ Some d.call) e es n in
    let waits = next_stopped plan state e.box_no (calls_left left e.box_no) e.call (s e.box_no) next in
    let told = subst (λ (reply : Reply). IsTrue (is_not_yet reply)) (sym l.1) waits in
    let after : LineState = after_entry plan state e in
    let same = subst (λ (x : LineState). SameButMoments state x) (sym (await_leaves plan state e.box_no e.call waits))
    (same_with_moment state e.box_no e.call) in
    let later = in_vain plan after left es (stopped_still plan state after left s same) others l.2 in
    record {
      replies = All-cons (λ (d : Entry). IsTrue (is_not_yet d.reply)) e es told later.replies;
      same = same_then state after (state_after plan after es) same later.same;
      stopped = later.stopped;
    }

-- ---- they may be made again

-- calls that a box may make in turn it may still make at the moment of the first
again_in_turn : (plan : PlanFields) (b moment : ℕ) (calls : List Call) (call : Call) → AreCalls plan b moment calls
    → head_of calls ≡ Some call → AreCalls plan b call.moment calls
again_in_turn plan b moment [] call h e = absurd cc
again_in_turn plan b moment (first ∷ calls) call h e =
    let same : first ≡ call = cc in
    let at : first.moment ≡ call.moment = ap (λ (c : Call). c.moment) same in
    (h.0, omega (arith, at), h.2)

left_still : (plan : PlanFields) (state : LineState) (left : List (List Call)) (b : ℕ) (call : Call)
    → IsStateOf plan state → AreLeft plan state left → head_of (calls_left left b) ≡ Some call
    → AreLeft plan (step plan state b call).after left
left_still plan state left b call shape h e =
    let may = may_look plan state left b call h (sym e) in
    let there = known_box plan b call may.known in
    record {
      each = h.each;
      calls = λ c. elim (eqb_tells c b) [
        | inl same ↦
            let moment = moment_here plan state b call (omega (arith, there, shape.boxes)) in
            rw (same.1, moment)
            (again_in_turn plan b (box_at state b).moment (calls_left left b) call (h.calls b) e)
        | inr differ ↦ rw (other_box plan state b c call differ.1) (h.calls c)
      ];
    }

all_left_still : (plan : PlanFields) (state : LineState) (left : List (List Call)) (es : List Entry)
    → IsStateOf plan state → AreLeft plan state left → AreNextCalls left es
    → AreLeft plan (state_after plan state es) left
all_left_still plan state left [] shape h n = h
all_left_still plan state left (e ∷ es) shape h n =
    all_left_still plan (after_entry plan state e) left es (shape_stays plan state e.box_no e.call shape)
    (left_still plan state left e.box_no e.call shape h
    (All-head (λ (d : Entry). head_of (calls_left left d.box_no) ≡ Some d.call) e es n))
    (All-tail (λ (d : Entry). head_of (calls_left left d.box_no) ≡ Some d.call) e es n)

-- after next calls of boxes, in any number, a box may still make its next call
pub again : (plan : PlanFields) (state : LineState) (left : List (List Call)) (es : List Entry) (b : ℕ) (call : Call)
    → IsStateOf plan state → AreLeft plan state left → AreNextCalls left es
    → head_of (calls_left left b) ≡ Some call → MayCall plan (state_after plan state es) b call
again plan state left es b call shape h n e =
    may_look plan (state_after plan state es) left b call (all_left_still plan state left es shape h n) (sym e)
