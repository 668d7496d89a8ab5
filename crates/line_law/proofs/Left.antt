-- The calls that are left: each may be made, and one that is made leaves the others.
use Rattle.std.proofs.Common.{◌≡◌, ◌≢◌, ℕ, zero, suc, ◌+◌, ◌<◌, Bool, true, false, cond, List, [], ◌∷◌, Option, Some}
use Rattle.std.proofs.Common.{None, length, slice_set, refl, ap, subst, ◌∙◌, arith, inl, inr, eqb}
use Rattle.std.proofs.lemmas.Bool.{cases_lt}
use Rattle.std.proofs.lemmas.Bool.Decides.{eqb_tells}
use Rattle.std.proofs.lemmas.List.{length-set, get_or_past, get_or-set_same, get_or-set_other}
use Rattle.std.proofs.lemmas.List.Sums.{sum_by-set}
use Rattle.line_plan.specs.Frames.{BoxFields, signal_of}
use Rattle.line_plan.specs.Plans.{PlanFields}
use Rattle.line_plan.specs.declared.signal.Signal.{Signal}
use Rattle.block_words.specs.declared.Way.{Way}
use Rattle.line_law.specs.declared.call.Act.{Act}
use Rattle.line_law.specs.declared.call.Call.{Call}
use Rattle.line_law.specs.declared.state.BoxState.{BoxState}
use Rattle.line_law.specs.declared.state.PairState.{PairState}
use Rattle.line_law.specs.declared.state.Passage.{Passage}
use Rattle.line_law.specs.Arrivals.{next_number, next_train, train_awaited, train_berthed, train_cleared, train_parted}
use Rattle.line_law.specs.Bells.{rung, heard, awaited}
use Rattle.line_law.specs.Decisions.{Decision, Told, on_pair}
use Rattle.line_law.specs.Instruments.{same_position}
use Rattle.line_law.specs.Law.{MayCall, at_moment, done_at, link_of, pair_of, box_plan_of, step, step_at}
use Rattle.line_law.specs.Levers.{is_unspent_clear, pulled}
use Rattle.line_law.specs.Links.{way_of}
use Rattle.line_law.specs.Outcomes.{Outcome, Refused, Rings, Hears, AwaitsBell, Turns, AwaitsBlock, Pulls, PullsStarter}
use Rattle.line_law.specs.Outcomes.{Puts, Brings, GoesTo, GoesAway, Enters, AwaitsTrain, Berths, Parts, Clears, Winds}
use Rattle.line_law.specs.Outcomes.{Releases}
use Rattle.line_law.specs.Serial.{AreCalls, AreLeft, calls_left, next_box, count_left, first_free, first_waiting}
use Rattle.line_law.specs.Serial.{or_else, may_go}
use Rattle.line_law.specs.States.{LineState, box_at, pair_at}
use Rattle.line_law.specs.Trains.{holds}
use Rattle.line_law.specs.Ways.{of_way}
use Rattle.line_law.proofs.Outcomes.{outcome_of}

-- ---- one call

-- the calls that box b has left, of which one is made
pub may_call : (plan : PlanFields) (state : LineState) (left : List (List Call)) (b : ℕ) (call : Call)
    (calls : List Call) → AreLeft plan state left → calls_left left b ≡ call ∷ calls → MayCall plan state b call
may_call plan state left b call calls h e =
    let all = subst (λ (cs : List Call). AreCalls plan b (box_at state b).moment cs) e (h.calls b) in
    record { known = all.0; later = all.1 }

-- a box that has a call left is one of the line
pub has_box : (left : List (List Call)) (b : ℕ) (call : Call) (calls : List Call) → calls_left left b ≡ call ∷ calls
    → b < length left
has_box left b call calls e = elim (cases_lt b (length left)) [
  | inl lt ↦ lt
  | inr le ↦ absurd (let p = get_or_past left b [] le in cc)
]

-- ---- what a call leaves in its box

-- the moment of a box after each outcome of a call is the one before it
word_moment : {W : Type 0} (c : Bool) (m : ℕ) (x y : Told W) → x.here.moment ≡ m → y.here.moment ≡ m
    → (cond c x y).here.moment ≡ m
word_moment true m x y p q = p
word_moment false m x y p q = q

rung_moment : (here : BoxState) (side : Way) (code count : ℕ) (unheard : Option ℕ)
    → (rung here side code count unheard).here.moment ≡ here.moment
rung_moment here side code count None = refl
rung_moment here side code count (Some held) = refl

heard_moment : (here : BoxState) (count : ℕ) (unheard : Option ℕ) → (heard here count unheard).here.moment ≡ here.moment
heard_moment here count None = refl
heard_moment here count (Some held) = refl

awaited_moment : (here : BoxState) (code count : ℕ) (unheard : Option ℕ)
    → (awaited here code count unheard).here.moment ≡ here.moment
awaited_moment here code count None = refl
awaited_moment here code count (Some held) = word_moment (eqb held code) here.moment _ _ refl refl

pulled_moment : (here : BoxState) (lever : ℕ) (s : Option Signal) → (pulled here lever s).moment ≡ here.moment
pulled_moment here lever None = refl
pulled_moment here lever (Some s) = refl

awaits_moment : (t : Option ℕ) (here : BoxState) (j : ℕ) (line : List Passage)
    → (train_awaited t here j line).here.moment ≡ here.moment
awaits_moment None here j line = refl
awaits_moment (Some train) here j line = refl

berthed_moment : (t : Option ℕ) (here : BoxState) (way : Way) (place j : ℕ) (line : List Passage)
    → (train_berthed t here way place j line).here.moment ≡ here.moment
berthed_moment None here way place j line = refl
berthed_moment (Some train) here way place j line = refl

parted_moment : (t : Option ℕ) (here : BoxState) (way : Way) (place j : ℕ) (line : List Passage)
    → (train_parted t here way place j line).here.moment ≡ here.moment
parted_moment None here way place j line = refl
parted_moment (Some train) here way place j line = refl

cleared_moment : (t : Option ℕ) (here : BoxState) (way : Way) (j : ℕ) (line : List Passage)
    → (train_cleared t here way j line).here.moment ≡ here.moment
cleared_moment None here way j line = refl
cleared_moment (Some train) here way j line = refl

out_moment : (plan : PlanFields) (bp : BoxFields) (here : BoxState) (pair : PairState) (v : Way) (act : Act)
    (d : Decision) → Outcome plan bp here act d → (on_pair v d pair).here.moment ≡ here.moment
out_moment plan bp here pair v act d (Refused a reply refused) = refl
out_moment plan bp here pair v act d (Rings side code) =
    rung_moment here side code (of_way pair.bells v).count (of_way pair.bells v).unheard
out_moment plan bp here pair v act d (Hears side) =
    heard_moment here (of_way pair.bells v).count (of_way pair.bells v).unheard
out_moment plan bp here pair v act d (AwaitsBell side code) =
    awaited_moment here code (of_way pair.bells v).count (of_way pair.bells v).unheard
out_moment plan bp here pair v act d (Turns way position berth e free) = refl
out_moment plan bp here pair v act d (AwaitsBlock way position) =
    word_moment (same_position (of_way pair.blocks v).position position) here.moment _ _ refl refl
out_moment plan bp here pair v act d (Pulls lever e free) = pulled_moment here lever (signal_of bp lever)
out_moment plan bp here pair v act d (PullsStarter lever way e free) =
    word_moment (is_unspent_clear (of_way pair.blocks v)) here.moment _ _
    (pulled_moment here lever (signal_of bp lever)) refl
out_moment plan bp here pair v act d (Puts lever free) = refl
out_moment plan bp here pair v act d (Brings train free) = refl
out_moment plan bp here pair v act d (GoesTo a lever signal train place e to there moves) = refl
out_moment plan bp here pair v act d (GoesAway a lever signal train e to there moves) = refl
out_moment plan bp here pair v act d (Enters a lever signal train way e to there moves) =
    word_moment (holds (of_way pair.lines v) (of_way here.sent way + 1)) here.moment _ _ refl refl
out_moment plan bp here pair v act d (AwaitsTrain way) =
    awaits_moment (next_train here way (of_way pair.lines v)) here (next_number here way) (of_way pair.lines v)
out_moment plan bp here pair v act d (Berths way berth e free) =
    berthed_moment (next_train here way (of_way pair.lines v)) here way berth.place (next_number here way)
    (of_way pair.lines v)
out_moment plan bp here pair v act d (Parts way berth e free) =
    parted_moment (next_train here way (of_way pair.lines v)) here way berth.place (next_number here way)
    (of_way pair.lines v)
out_moment plan bp here pair v act d (Clears way free) =
    cleared_moment (next_train here way (of_way pair.lines v)) here way (next_number here way) (of_way pair.lines v)
out_moment plan bp here pair v act d (Winds way free) = refl
out_moment plan bp here pair v act d (Releases way free) = refl

-- a call is decided by its box and its pair, and changes no other
pub step_is : (plan : PlanFields) (state : LineState) (b : ℕ) (call : Call) → step plan state b call
    ≡ done_at state b (pair_of plan b call)
    (step_at plan (box_plan_of plan b) call (box_at state b) (pair_at state (pair_of plan b call)))
unfolding step
step_is plan state b call = refl

-- the box that calls has the call's moment; the others stay
pub moment_here : (plan : PlanFields) (state : LineState) (b : ℕ) (call : Call) → b < length state.boxes
    → (box_at (step plan state b call).after b).moment ≡ call.moment
unfolding step
moment_here plan state b call lt =
    ap (λ (x : BoxState). x.moment) (get_or-set_same state.boxes b _ _ lt)
    ∙ out_moment plan (box_plan_of plan b) (at_moment (box_at state b) call.moment)
    (pair_at state (pair_of plan b call)) (way_of (link_of (box_plan_of plan b) call.act)) call.act _
    (outcome_of plan (box_plan_of plan b) call.act (at_moment (box_at state b) call.moment))

-- a call leaves every other box as it was
pub other_box : (plan : PlanFields) (state : LineState) (b c : ℕ) (call : Call) → c ≢ b
    → box_at (step plan state b call).after c ≡ box_at state c
unfolding step
other_box plan state b c call differ = get_or-set_other state.boxes b c _ _ differ

-- a call keeps the number of boxes
pub same_boxes : (plan : PlanFields) (state : LineState) (b : ℕ) (call : Call)
    → length (step plan state b call).after.boxes ≡ length state.boxes
unfolding step
same_boxes plan state b call = length-set state.boxes b _

-- ---- what a call leaves to be made

-- what is left after a call can be called in turn
pub left_next : (plan : PlanFields) (state : LineState) (left : List (List Call)) (b : ℕ) (call : Call)
    (calls : List Call)
    → length state.boxes ≡ length plan.boxes → AreLeft plan state left → calls_left left b ≡ call ∷ calls
    → AreLeft plan (step plan state b call).after (slice_set left b calls)
left_next plan state left b call calls boxes h e =
    let within : b < length left = has_box left b call calls e in
    let all = subst (λ (cs : List Call). AreCalls plan b (box_at state b).moment cs) e (h.calls b) in
    record {
      each = length-set left b calls ∙ h.each;
      calls = λ c. elim (eqb_tells c b) [
        | inl same ↦
            let mine : calls_left (slice_set left b calls) c ≡ calls =
            rw same.1 (get_or-set_same left b calls [] within) in
            let moment : (box_at (step plan state b call).after c).moment ≡ call.moment =
            rw same.1 (moment_here plan state b call (omega (arith, boxes, h.each, within))) in
            rw (mine, moment, same.1) all.2
        | inr differ ↦
            rw (get_or-set_other left b c calls [] differ.1, other_box plan state b c call differ.1) (h.calls c)
      ];
    }

-- a call that is made leaves one call fewer
pub count_next : (left : List (List Call)) (b : ℕ) (call : Call) (calls : List Call) → calls_left left b ≡ call ∷ calls
    → count_left left ≡ count_left (slice_set left b calls) + 1
count_next left b call calls e =
    let within : b < length left = has_box left b call calls e in
    let sum = sum_by-set (λ (cs : List Call). length cs) left b calls [] within in
    let mine : length (calls_left left b) ≡ length calls + 1 = ap length e ∙ omega arith in
    omega arith

-- ---- the next box

-- some call is left there
pub record HasCall (calls : List Call) : Type 0 where
  pub call : Call
  pub rest : List Call
  pub is : calls ≡ call ∷ rest

free_here : (plan : PlanFields) (state : LineState) (b : ℕ) (calls : List Call) → may_go plan state b calls ≡ true
    → HasCall calls
free_here plan state b [] h = absurd cc
free_here plan state b (call ∷ calls) h = record { call = call; rest = calls; is = refl }

record IsAt (k b : ℕ) (left : List (List Call)) : Type 0 where
  place : ℕ
  is : b ≡ k + place
  has : HasCall (calls_left left place)

at_next : (k b : ℕ) (calls : List Call) (left : List (List Call)) → IsAt (k + 1) b left → IsAt k b (calls ∷ left)
at_next k b calls left h = record { place = suc h.place; is = omega (arith, h.is); has = h.has }

free_at : (plan : PlanFields) (state : LineState) (k b : ℕ) (left : List (List Call))
    → first_free plan state k left ≡ Some b → IsAt k b left
free_at plan state k b [] h = absurd cc
free_at plan state k b (calls ∷ left) h =
    go (free_at plan state (k + 1) b left) (may_go plan state k calls) refl h where
      go : (first_free plan state (k + 1) left ≡ Some b → IsAt (k + 1) b left) → (t : Bool)
          → may_go plan state k calls ≡ t
          → cond t (Some k) (first_free plan state (k + 1) left) ≡ Some b → IsAt k b (calls ∷ left)
      go later true e f = let same : k ≡ b =
          cc in record { place = zero; is = omega (arith, same); has = free_here plan state k calls e }
      go later false e f = at_next k b calls left (later f)

waiting_at : (k b : ℕ) (left : List (List Call)) → first_waiting k left ≡ Some b → IsAt k b left
waiting_at k b [] h = absurd cc
waiting_at k b ([] ∷ left) h = at_next k b [] left (waiting_at (k + 1) b left h)
waiting_at k b ((call ∷ calls) ∷ left) h = let same : k ≡ b =
    cc in record { place = zero; is = omega (arith, same); has = record { call = call; rest = calls; is = refl } }

-- the box that calls next has a call left
pub next_has : (plan : PlanFields) (state : LineState) (left : List (List Call)) (b : ℕ)
    → next_box plan state left ≡ Some b → HasCall (calls_left left b)
next_has plan state left b h = go (first_free plan state 0 left) refl h where
  there : IsAt 0 b left → HasCall (calls_left left b)
  there at = let same : b ≡ at.place = omega (arith, at.is) in rw same at.has

  go : (o : Option ℕ) → first_free plan state 0 left ≡ o → or_else o (first_waiting 0 left) ≡ Some b
      → HasCall (calls_left left b)
  go (Some c) e f = let same : c ≡ b = cc in there (free_at plan state 0 b left (rw e (ap Some same)))
  go None e f = there (waiting_at 0 b left f)

none_waits : (k : ℕ) (left : List (List Call)) → first_waiting k left ≡ None → count_left left ≡ 0
none_waits k [] h = refl
none_waits k ([] ∷ left) h = let rest = none_waits (k + 1) left h in omega arith
none_waits k ((call ∷ calls) ∷ left) h = absurd cc

-- where no box calls next, no call is left
pub none_next : (plan : PlanFields) (state : LineState) (left : List (List Call)) → next_box plan state left ≡ None
    → count_left left ≡ 0
none_next plan state left h = go (first_free plan state 0 left) h where
  go : (o : Option ℕ) → or_else o (first_waiting 0 left) ≡ None → count_left left ≡ 0
  go (Some c) f = absurd cc
  go None f = none_waits 0 left f
