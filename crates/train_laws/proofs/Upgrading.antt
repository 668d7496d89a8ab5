-- A history is legal in minutes exactly where the same history is legal in seconds.
use Rattle.std.proofs.Common.{ℕ, ◌*◌, ◌/◌, ◌≡◌, ◌≤◌, List, [], ◌∷◌, Bool, cond, IsTrue, length, map, refl, sym, ap}
use Rattle.std.proofs.Common.{subst, ◌∙◌, arith}
use Rattle.std.specs.Prelude.{◌↔◌, ◌==◌}
use Rattle.std.proofs.Math.ListN.{get_or-map}
use Rattle.std.proofs.lemmas.List.{map-set}
use Rattle.line_plan.specs.Frames.{BoxFields}
use Rattle.line_plan.specs.Plans.{PlanFields}
use Rattle.line_law.specs.declared.call.Act.{Act}
use Rattle.line_law.specs.declared.call.Act.TheVariants as acts
use Rattle.line_law.specs.declared.call.Call.{Call}
use Rattle.line_law.specs.declared.call.Entry.{Entry}
use Rattle.line_law.specs.declared.call.Reply.{Reply}
use Rattle.line_law.specs.declared.call.Reply.TheVariants.{Winding, TooSoon}
use Rattle.line_law.specs.declared.state.BoxState.{BoxState}
use Rattle.line_law.specs.declared.state.PairState.{PairState}
use Rattle.line_law.specs.Decisions.{Told}
use Rattle.line_law.specs.History.{IsLegal, IsLegalFrom, after_entry, state_after, state_of}
use Rattle.line_law.specs.Known.{knows_act, knows_call}
use Rattle.line_law.specs.Law.{Done, MayCall, at_moment, decide, done_at, link_of, pair_of, box_plan_of, step, step_at}
use Rattle.line_law.specs.Links.{way_of}
use Rattle.line_law.specs.States.{LineState, box_at, no_state, opening_box, opening_state, pair_at}
use Rattle.line_plan.specs.Upgrades.{plan_in_seconds, upgraded}
use Rattle.train_laws.specs.Upgrades.{box_in_seconds, call_in_seconds, in_seconds, reply_in_seconds, state_in_seconds}
use Rattle.train_laws.proofs.InSeconds.{decided_alike, less_in_seconds, pair_alike, told_in_seconds}

-- ---- one call

box_alike : (s : LineState) (b : ℕ) → box_at (state_in_seconds s) b ≡ box_in_seconds (box_at s b)
box_alike s b = get_or-map (λ (here : BoxState). box_in_seconds here) s.boxes b no_state

done_alike : (s : LineState) (b p : ℕ) (told : Told PairState)
    → done_at (state_in_seconds s) b p (told_in_seconds told)
    ≡ record { reply = reply_in_seconds told.reply; after = state_in_seconds (done_at s b p told).after }
done_alike s b p told = rw (map-set (λ (here : BoxState). box_in_seconds here) s.boxes b told.here) refl

told_alike : (plan : PlanFields) (s : LineState) (b : ℕ) (call : Call) (pair : PairState)
    → step_at (plan_in_seconds plan) (box_plan_of plan b) (call_in_seconds call) (box_at (state_in_seconds s) b) pair
    ≡ told_in_seconds (step_at plan (box_plan_of plan b) call (box_at s b) pair)
told_alike plan s b call pair =
    let box_plan : BoxFields = box_plan_of plan b in
    ap (λ (here : BoxState). step_at (plan_in_seconds plan) box_plan (call_in_seconds call) here pair) (box_alike s b)
    ∙ pair_alike (way_of (link_of box_plan call.act))
    (decide plan box_plan call.act (at_moment (box_at s b) call.moment)) _ pair
    (decided_alike plan box_plan call.act (at_moment (box_at s b) call.moment))

step_alike : (plan : PlanFields) (s : LineState) (b : ℕ) (call : Call)
    → step (plan_in_seconds plan) (state_in_seconds s) b (call_in_seconds call)
    ≡ record {
      reply = reply_in_seconds (step plan s b call).reply;
      after =
          state_in_seconds (step plan s b call).after;
    }
unfolding step
step_alike plan s b call =
    let p : ℕ = pair_of plan b call in
    ap (λ (told : Told PairState). done_at (state_in_seconds s) b p told) (told_alike plan s b call (pair_at s p))
    ∙ done_alike s b p (step_at plan (box_plan_of plan b) call (box_at s b) (pair_at s p))

reply_alike : (plan : PlanFields) (s : LineState) (b : ℕ) (call : Call)
    → (step (plan_in_seconds plan) (state_in_seconds s) b (call_in_seconds call)).reply
    ≡ reply_in_seconds (step plan s b call).reply
reply_alike plan s b call = ap (λ (done : Done). done.reply) (step_alike plan s b call)

after_alike : (plan : PlanFields) (s : LineState) (b : ℕ) (call : Call)
    → (step (plan_in_seconds plan) (state_in_seconds s) b (call_in_seconds call)).after
    ≡ state_in_seconds (step plan s b call).after
after_alike plan s b call = ap (λ (done : Done). done.after) (step_alike plan s b call)

-- ---- known calls

act_alike : (plan : PlanFields) (b : ℕ) (act : Act) → knows_act (plan_in_seconds plan) b act ≡ knows_act plan b act
act_alike plan b (acts.Ring side code) = refl
act_alike plan b act = refl

known_alike : (plan : PlanFields) (b : ℕ) (call : Call) → plan.version ≡ 1
    → knows_call (plan_in_seconds plan) b (call_in_seconds call) ≡ knows_call plan b call
unfolding knows_call
known_alike plan b call one = rw (act_alike plan b call.act, less_in_seconds call.moment 1440, one) refl

may_seconds : (plan : PlanFields) (s : LineState) (b : ℕ) (call : Call) → plan.version ≡ 1 → MayCall plan s b call
    → MayCall (plan_in_seconds plan) (state_in_seconds s) b (call_in_seconds call)
may_seconds plan s b call one may =
    let later = may.later in
    let moment : (box_at (state_in_seconds s) b).moment ≡ (box_at s b).moment * 60 =
    ap (λ (here : BoxState). here.moment) (box_alike s b) in
    record {
      known = subst (λ (x : Bool). IsTrue x) (sym (known_alike plan b call one)) may.known;
      later =
          rw moment (omega (arith, later));
    }

may_minutes : (plan : PlanFields) (s : LineState) (b : ℕ) (call : Call) → plan.version ≡ 1
    → MayCall (plan_in_seconds plan) (state_in_seconds s) b (call_in_seconds call) → MayCall plan s b call
may_minutes plan s b call one may =
    let moment : (box_at (state_in_seconds s) b).moment ≡ (box_at s b).moment * 60 =
    ap (λ (here : BoxState). here.moment) (box_alike s b) in
    let later : (box_at s b).moment * 60 ≤ call.moment * 60 = rw moment at may.later in
    record {
      known = subst (λ (x : Bool). IsTrue x) (known_alike plan b call one) may.known;
      later =
          omega (arith, later);
    }

-- ---- replies

-- a reply in seconds told in minutes
in_minutes : Reply → Reply
in_minutes (Winding ready_at) = Winding (ready_at / 60)
in_minutes (TooSoon ready_at) = TooSoon (ready_at / 60)
in_minutes reply = reply

minutes : (m : ℕ) → m * 60 / 60 ≡ m
minutes m = omega arith

back : (reply : Reply) → in_minutes (reply_in_seconds reply) ≡ reply
unfolding in_minutes
back (Winding ready_at) = ap (λ (m : ℕ). Winding m) (minutes ready_at)
back (TooSoon ready_at) = ap (λ (m : ℕ). TooSoon m) (minutes ready_at)
back reply = refl

same_reply : (one other : Reply) → reply_in_seconds one ≡ reply_in_seconds other → one ≡ other
same_reply one other e = sym (back one) ∙ ap in_minutes e ∙ back other

-- ---- histories

seconds_from : (plan : PlanFields) (es : List Entry) (s : LineState) → plan.version ≡ 1 → IsLegalFrom plan s es
    → IsLegalFrom (plan_in_seconds plan) (state_in_seconds s) (in_seconds es)
seconds_from plan [] s one legal = tt
seconds_from plan (e ∷ es) s one legal = (
  may_seconds plan s e.box_no e.call one legal.0,
  ap reply_in_seconds legal.1 ∙ sym (reply_alike plan s e.box_no e.call),
  subst (λ (after : LineState). IsLegalFrom (plan_in_seconds plan) after (in_seconds es))
      (sym (after_alike plan s e.box_no e.call)) (seconds_from plan es (after_entry plan s e) one legal.2),
)

minutes_from : (plan : PlanFields) (es : List Entry) (s : LineState) → plan.version ≡ 1
    → IsLegalFrom (plan_in_seconds plan) (state_in_seconds s) (in_seconds es) → IsLegalFrom plan s es
minutes_from plan [] s one legal = tt
minutes_from plan (e ∷ es) s one legal = (
  may_minutes plan s e.box_no e.call one legal.0,
  same_reply e.reply (step plan s e.box_no e.call).reply (legal.1 ∙ reply_alike plan s e.box_no e.call),
  minutes_from plan es (after_entry plan s e) one
      (subst (λ (after : LineState). IsLegalFrom (plan_in_seconds plan) after (in_seconds es))
      (after_alike plan s e.box_no e.call) legal.2),
)

state_from : (plan : PlanFields) (es : List Entry) (s : LineState)
    → state_after (plan_in_seconds plan) (state_in_seconds s) (in_seconds es) ≡ state_in_seconds (state_after plan s es)
state_from plan [] s = refl
state_from plan (e ∷ es) s =
    ap (λ (after : LineState). state_after (plan_in_seconds plan) after (in_seconds es))
    (after_alike plan s e.box_no e.call) ∙ state_from plan es (after_entry plan s e)

-- ---- the opening

opening_boxes : (trains : ℕ) (boxes : List BoxFields)
    → map (λ here. box_in_seconds here) (map (λ box_plan. opening_box trains box_plan) boxes)
    ≡ map (λ box_plan. opening_box trains box_plan) boxes
opening_boxes trains [] = refl
opening_boxes trains (b ∷ boxes) =
    ap (λ (rest : List BoxState). opening_box trains b ∷ rest) (opening_boxes trains boxes)

opening_alike : (plan : PlanFields) → opening_state (plan_in_seconds plan) ≡ state_in_seconds (opening_state plan)
unfolding opening_state
opening_alike plan = rw (opening_boxes (length plan.trains) plan.boxes) refl

-- ---- the laws

is_upgrade : (plan : PlanFields) → plan.version ≡ 1 → upgraded plan ≡ plan_in_seconds plan
is_upgrade plan one = ap (λ (n : ℕ). cond (n == 1) (plan_in_seconds plan) plan) one

-- a history is legal for a plan of version 1 exactly where it is, in seconds, for its upgrade
pub legal_in_seconds : (plan : PlanFields) (es : List Entry) → plan.version ≡ 1
    → (IsLegal plan es ↔ IsLegal (upgraded plan) (in_seconds es))
legal_in_seconds plan es one = (
  (λ legal. subst (λ (p : PlanFields). IsLegal p (in_seconds es)) (sym (is_upgrade plan one))
      (subst (λ (s : LineState). IsLegalFrom (plan_in_seconds plan) s (in_seconds es)) (sym (opening_alike plan))
      (seconds_from plan es (opening_state plan) one legal))),
  (λ legal. minutes_from plan es (opening_state plan) one
      (subst (λ (s : LineState). IsLegalFrom (plan_in_seconds plan) s (in_seconds es)) (opening_alike plan)
      (subst (λ (p : PlanFields). IsLegal p (in_seconds es)) (is_upgrade plan one) legal))),
)

-- and it ends in the same state, but for its moments
pub state_upgrade : (plan : PlanFields) (es : List Entry) → plan.version ≡ 1
    → state_of (upgraded plan) (in_seconds es) ≡ state_in_seconds (state_of plan es)
state_upgrade plan es one =
    ap (λ (p : PlanFields). state_of p (in_seconds es)) (is_upgrade plan one)
    ∙ ap (λ (s : LineState). state_after (plan_in_seconds plan) s (in_seconds es)) (opening_alike plan)
    ∙ state_from plan es (opening_state plan)
