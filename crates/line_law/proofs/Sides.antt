-- A call that the plan knows reaches a box and a pair of the line; its line leads to a neighbour, or it is decided in
-- its box alone.
use Rattle.std.proofs.Common.{◌≡◌, ℕ, ◌+◌, ◌<◌, ◌≤◌, ◌&&◌, ◌⊎◌, inl, inr, IsTrue, Option, Some, None, IfSome, length}
use Rattle.std.proofs.Common.{refl, sym, ap, subst, ◌∙◌, arith}
use Rattle.std.specs.Prelude.{is_some, nat_lt}
use Rattle.std.proofs.lemmas.Bool.Decides.{nat_tests}
use Rattle.block_words.specs.Ways.{opposite}
use Rattle.block_words.specs.declared.Way.{Way}
use Rattle.block_words.specs.declared.Way.TheVariants.{Up, Down}
use Rattle.line_plan.specs.Frames.{berth_of, leads_to, signal_of, way_to}
use Rattle.line_plan.specs.Plans.{IsPlan, IsWay, PlanFields}
use Rattle.line_plan.specs.Ways.{comes_in, has_neighbour, leaves}
use Rattle.line_plan.specs.declared.signal.Signal.{Signal}
use Rattle.line_law.specs.declared.call.Act.{Act}
use Rattle.line_law.specs.declared.call.Act.TheVariants as acts
use Rattle.line_law.specs.declared.call.Call.{Call}
use Rattle.line_law.specs.declared.link.Link.{Link}
use Rattle.line_law.specs.declared.link.Link.TheVariants.{Out, In}
use Rattle.line_law.specs.declared.state.BoxState.{BoxState}
use Rattle.line_law.specs.Decisions.{Decision}
use Rattle.line_law.specs.Known.{KnowsCall, is_code_no, knows_act, knows_call, knows_side, moments_of}
use Rattle.line_law.specs.Law.{at_moment, link_of, pair_of, box_plan_of}
use Rattle.line_law.specs.Levers.{lever_link, starter_link, starter_way}
use Rattle.line_law.specs.Links.{pair_no}
use Rattle.line_law.specs.Outcomes.{Moves, Passes, Overruns, Outcome, Rings, Hears, AwaitsBell, Turns}
use Rattle.line_law.specs.Outcomes.{AwaitsBlock, PullsStarter, Enters}
use Rattle.line_law.specs.Outcomes.{AwaitsTrain, Berths, Parts, Clears}
use Rattle.line_law.specs.SectionFacts.{HasLink, IsLocal, decided}
use Rattle.line_law.proofs.Found.{both}
use Rattle.line_law.proofs.Outcomes.{outcome_of}
use Rattle.line_law.proofs.PlanFacts.{signal_is}

-- what is known of a call, by its parts
pub record KnownParts (plan : PlanFields) (b : ℕ) (call : Call) : Type 0 where
  pub box : b < length plan.boxes
  pub moment : call.moment < moments_of plan.version
  pub act : IsTrue (knows_act plan b call.act)

-- a known call's box is one of the line, its moment is of a day, and its conditions hold
pub known_parts : (plan : PlanFields) (b : ℕ) (call : Call) → KnowsCall plan b call → KnownParts plan b call
unfolding knows_call
known_parts plan b call known =
    let front =
    both (nat_lt b (length plan.boxes) && nat_lt call.moment (moments_of plan.version)) (knows_act plan b call.act)
    known in
    let parts = both (nat_lt b (length plan.boxes)) (nat_lt call.moment (moments_of plan.version)) front.0 in
    record {
      box = (let p = parts.0 in grind (arith, nat_tests));
      moment =
          (let p = parts.1 in grind (arith, nat_tests));
      act = front.1;
    }

-- the box of a known call is one of the line
pub known_box : (plan : PlanFields) (b : ℕ) (call : Call) → KnowsCall plan b call → b < length plan.boxes
known_box plan b call known = (known_parts plan b call known).box

-- ---- the line of a call

-- what a box hears from a side comes in
comes_from : (n b : ℕ) (side : Way) → IsTrue (has_neighbour n b side) → IsTrue (comes_in n b (opposite side))
comes_from n b Up h = h
comes_from n b Down h = h

-- a starter's line leaves its box
leaves_by : (n b : ℕ) (signal : Signal) (way : Way) → IsWay n b signal → leads_to signal ≡ Some way
    → IsTrue (leaves n b way)
leaves_by n b signal way is e = subst (λ (o : Option Way). IfSome o (λ w. IsTrue (leaves n b w))) e is

pub starter_leaves : (plan : PlanFields) (b : ℕ) (lever : ℕ) (signal : Signal) (way : Way) → IsPlan plan
    → b < length plan.boxes → signal_of (box_plan_of plan b) lever ≡ Some signal → leads_to signal ≡ Some way
    → IsTrue (leaves (length plan.boxes) b way)
starter_leaves plan b lever signal way is within e to =
    leaves_by (length plan.boxes) b signal way
    (signal_is (length plan.boxes) b (box_plan_of plan b) lever signal (is.each b within) e).way to

pub starter_has : (plan : PlanFields) (b : ℕ) (lever : ℕ) (s : Option Signal) (way : Way) → IsPlan plan
    → b < length plan.boxes → signal_of (box_plan_of plan b) lever ≡ s → starter_way s ≡ Some way
    → IsTrue (leaves (length plan.boxes) b way)
starter_has plan b lever None way is within e to = absurd cc
starter_has plan b lever (Some signal) way is within e to = starter_leaves plan b lever signal way is within e to

link_has : (plan : PlanFields) (b lever : ℕ) (way : Way) → IsPlan plan → b < length plan.boxes
    → starter_way (signal_of (box_plan_of plan b) lever) ≡ Some way
    → HasLink (length plan.boxes) b (lever_link (box_plan_of plan b) lever)
link_has plan b lever way is within e =
    subst (λ (o : Option Way). HasLink (length plan.boxes) b (starter_link o)) (sym e)
    (starter_has plan b lever (signal_of (box_plan_of plan b) lever) way is within refl e)

enters_has : (plan : PlanFields) (b : ℕ) (here : BoxState) (act : Act) (lever : ℕ) (signal : Signal) (way : Way)
    → IsPlan plan → b < length plan.boxes → signal_of (box_plan_of plan b) lever ≡ Some signal
    → leads_to signal ≡ Some way → Moves here lever signal act
    → HasLink (length plan.boxes) b (link_of (box_plan_of plan b) act)
enters_has plan b here act lever signal way is within e to (Passes free) =
    link_has plan b lever way is within (ap starter_way e ∙ to)
enters_has plan b here act lever signal way is within e to (Overruns free) =
    link_has plan b lever way is within (ap starter_way e ∙ to)

link_by : (plan : PlanFields) (b : ℕ) (here : BoxState) (act : Act) (d : Decision) → IsPlan plan → b < length plan.boxes
    → IsTrue (knows_act plan b act) → Outcome plan (box_plan_of plan b) here act d
    → (HasLink (length plan.boxes) b (link_of (box_plan_of plan b) act)) ⊎ IsLocal d
link_by plan b here act d is within known (Rings side code) =
    inl (both (knows_side plan b side) (is_code_no plan code) known).0
link_by plan b here act d is within known (Hears side) = inl (comes_from (length plan.boxes) b side known)
link_by plan b here act d is within known (AwaitsBell side code) =
    inl (comes_from (length plan.boxes) b side (both (knows_side plan b side) (is_code_no plan code) known).0)
link_by plan b here act d is within known (Turns way position berth e free) =
    inl (both (comes_in (length plan.boxes) b way) (is_some (berth_of (box_plan_of plan b) way)) known).0
link_by plan b here act d is within known (AwaitsBlock way position) = inl known
link_by plan b here act d is within known (PullsStarter lever way e free) = inl (link_has plan b lever way is within e)
link_by plan b here act d is within known (Enters a lever signal train way e to there moves) =
    inl (enters_has plan b here a lever signal way is within e (ap way_to to) moves)
link_by plan b here act d is within known (AwaitsTrain way) =
    inl (both (comes_in (length plan.boxes) b way) (is_some (berth_of (box_plan_of plan b) way)) known).0
link_by plan b here act d is within known (Berths way berth e free) =
    inl (both (comes_in (length plan.boxes) b way) (is_some (berth_of (box_plan_of plan b) way)) known).0
link_by plan b here act d is within known (Parts way berth e free) =
    inl (both (comes_in (length plan.boxes) b way) (is_some (berth_of (box_plan_of plan b) way)) known).0
link_by plan b here act d is within known (Clears way free) =
    inl (both (comes_in (length plan.boxes) b way) (is_some (berth_of (box_plan_of plan b) way)) known).0
link_by plan b here act d is within known out = inr tt

-- the line of a known call leads to a neighbour, or the call is decided in its box alone
pub known_link : (plan : PlanFields) (b : ℕ) (call : Call) (here : BoxState) → IsPlan plan → KnowsCall plan b call
    → (HasLink (length plan.boxes) b (link_of (box_plan_of plan b) call.act)) ⊎ IsLocal (decided plan b call here)
known_link plan b call here is known =
    let parts = known_parts plan b call known in
    link_by plan b (at_moment here call.moment) call.act _ is parts.box parts.act
    (outcome_of plan (box_plan_of plan b) call.act (at_moment here call.moment))

-- ---- the pair of a call

-- the pair that a line reaches is of the line of boxes
link_pair : (n b : ℕ) (link : Link) → HasLink n b link → pair_no b link + 1 < n
link_pair n b (Out Up) h = let p = both (nat_lt 0 b) (nat_lt b n) h in grind (arith, nat_tests)
link_pair n b (Out Down) h = grind (arith, nat_tests)
link_pair n b (In Up) h = grind (arith, nat_tests)
link_pair n b (In Down) h = let p = both (nat_lt 0 b) (nat_lt b n) h in grind (arith, nat_tests)

down_pair : (n b : ℕ) → 2 ≤ n → b < n → pair_no b (In Down) + 1 < n
down_pair n b two h = omega (arith, two, h)

lever_pair : (plan : PlanFields) (b lever : ℕ) (w : Option Way) → IsPlan plan → b < length plan.boxes
    → starter_way (signal_of (box_plan_of plan b) lever) ≡ w → pair_no b (starter_link w) + 1 < length plan.boxes
lever_pair plan b lever None is within e = down_pair (length plan.boxes) b is.fewest within
lever_pair plan b lever (Some way) is within e =
    link_pair (length plan.boxes) b (Out way)
    (starter_has plan b lever (signal_of (box_plan_of plan b) lever) way is within refl e)

act_pair : (plan : PlanFields) (b : ℕ) (act : Act) → IsPlan plan → b < length plan.boxes → IsTrue (knows_act plan b act)
    → pair_no b (link_of (box_plan_of plan b) act) + 1 < length plan.boxes
act_pair plan b (acts.Ring side code) is within known =
    link_pair (length plan.boxes) b (Out side) (both (knows_side plan b side) (is_code_no plan code) known).0
act_pair plan b (acts.Hear side) is within known =
    link_pair (length plan.boxes) b (In (opposite side)) (comes_from (length plan.boxes) b side known)
act_pair plan b (acts.AwaitBell side code) is within known =
    link_pair (length plan.boxes) b (In (opposite side))
    (comes_from (length plan.boxes) b side (both (knows_side plan b side) (is_code_no plan code) known).0)
act_pair plan b (acts.AwaitBlock way position) is within known = link_pair (length plan.boxes) b (Out way) known
act_pair plan b (acts.Pull lever) is within known = lever_pair plan b lever _ is within refl
act_pair plan b (acts.Put lever) is within known = down_pair (length plan.boxes) b is.fewest within
act_pair plan b (acts.Bring train) is within known = down_pair (length plan.boxes) b is.fewest within
act_pair plan b (acts.Pass lever) is within known = lever_pair plan b lever _ is within refl
act_pair plan b (acts.Overrun lever) is within known = lever_pair plan b lever _ is within refl
act_pair plan b act is within known =
    link_pair (length plan.boxes) b (link_of (box_plan_of plan b) act) (both _ _ known).0

-- box b and this pair are of a line of n boxes
pub record IsWithin (n b p : ℕ) : Type 0 where
  pub box : b < n
  pub pair : p + 1 < n

-- a known call reaches a box and a pair of the line
pub call_within : (plan : PlanFields) (b : ℕ) (call : Call) → IsPlan plan → KnowsCall plan b call
    → IsWithin (length plan.boxes) b (pair_of plan b call)
call_within plan b call is known =
    let parts = known_parts plan b call known in
    record { box = parts.box; pair = act_pair plan b call.act is parts.box parts.act }

-- ---- a call on an outgoing line

out_of_starter : (plan : PlanFields) (b lever : ℕ) (w : Option Way) (way : Way) → IsPlan plan → b < length plan.boxes
    → starter_way (signal_of (box_plan_of plan b) lever) ≡ w → starter_link w ≡ Out way
    → IsTrue (leaves (length plan.boxes) b way)
out_of_starter plan b lever None way is within e link = absurd cc
out_of_starter plan b lever (Some v) way is within e link =
    let same : v ≡ way = cc in
    subst (λ (u : Way). IsTrue (leaves (length plan.boxes) b u)) same
    (starter_has plan b lever (signal_of (box_plan_of plan b) lever) v is within refl e)

-- a known call whose line is an outgoing one is of a box that this line leaves
pub out_leaves : (plan : PlanFields) (b : ℕ) (act : Act) (way : Way) → IsPlan plan → b < length plan.boxes
    → IsTrue (knows_act plan b act) → link_of (box_plan_of plan b) act ≡ Out way
    → IsTrue (leaves (length plan.boxes) b way)
out_leaves plan b (acts.Ring side code) way is within known link = let same : side ≡ way =
    cc in subst (λ (u : Way). IsTrue (leaves (length plan.boxes) b u)) same
    (both (knows_side plan b side) (is_code_no plan code) known).0
out_leaves plan b (acts.AwaitBlock v position) way is within known link = let same : v ≡ way =
    cc in subst (λ (u : Way). IsTrue (leaves (length plan.boxes) b u)) same known
out_leaves plan b (acts.Pull lever) way is within known link =
    out_of_starter plan b lever (starter_way (signal_of (box_plan_of plan b) lever)) way is within refl link
out_leaves plan b (acts.Pass lever) way is within known link =
    out_of_starter plan b lever (starter_way (signal_of (box_plan_of plan b) lever)) way is within refl link
out_leaves plan b (acts.Overrun lever) way is within known link =
    out_of_starter plan b lever (starter_way (signal_of (box_plan_of plan b) lever)) way is within refl link
out_leaves plan b act way is within known link = absurd cc
