-- A judge hears entries as they are read.
use Rattle.std.proofs.Common.{◌≡◌, ◌≢◌, ℕ, ◌+◌, ◌<◌, ◌≤◌, Bool, true, false, cond, List, [], ◌∷◌, ◌++◌, length, drop}
use Rattle.std.proofs.Common.{get_or, inl, inr, refl, sym, ap, subst, ◌∙◌, arith}
use Rattle.std.proofs.lemmas.Bool.Decides.{eqb_tells}
use Rattle.std.proofs.lemmas.List.{drop_all, drop_more, get_or-set_other, get_or-set_same, length-replicate, length-set}
use Rattle.line_plan.specs.Plans.{IsPlan, PlanFields}
use Rattle.line_law.specs.declared.call.Entry.{Entry}
use Rattle.line_law.specs.declared.call.Reply.{Reply}
use Rattle.line_law.specs.History.{IsLegal, after_entry, state_of}
use Rattle.line_law.specs.Known.{KnowsCall}
use Rattle.line_law.specs.Law.{Done, MayCall, step}
use Rattle.line_law.specs.Replies.{same_reply}
use Rattle.line_law.specs.States.{IsStateOf, LineState, box_at, opening_state}
use Rattle.line_law.proofs.Histories.{legal_both, state_grows}
use Rattle.line_law.proofs.Left.{moment_here, other_box}
use Rattle.line_law.proofs.Opens.{opening_shape}
use Rattle.line_law.proofs.SameReplies.{same_reply-true}
use Rattle.line_report.specs.Hearings.{HasHeard}
use Rattle.line_report.specs.Readers.{SoFar, entry_onto, start}
use Rattle.line_report.specs.Spelled.{IsBehind}
use Rattle.line_report.specs.Verdicts.{JudgeFields, MayHear, heard, heard_all, heard_as, heard_by, opening_judge}
use Rattle.line_report.specs.declared.judging.Verdict.{Verdict}
use Rattle.line_report.specs.declared.judging.Verdict.TheVariants.{Legal, WrongAt}
use Rattle.line_report.proofs.AskedEntries.{no_moment}
use Rattle.line_report.proofs.Turns.{AreAskedFrom, asked_behind, starts_at}

-- ---- entry by entry

-- one entry more is heard behind the others
pub heard_more : (judge : JudgeFields) (es : List Entry) (e : Entry)
    → heard_all judge (es ++ e ∷ []) ≡ heard (heard_all judge es) e
heard_more judge [] e = refl
heard_more judge (first ∷ es) e = heard_more (heard judge first) es e

-- ---- before the first entry

-- a judge who opens has heard what a reader has read at the start: nothing
pub heard_none : (plan : PlanFields) → HasHeard (start plan) (opening_judge plan)
heard_none plan = record {
  plan = refl;
  count = refl;
  each = length-replicate {A = ℕ} (length plan.boxes) 0;
  line = opening_shape plan;
  moments = λ legal b. starts_at plan b ∙ sym (no_moment (length plan.boxes) b);
}

-- ---- entries of a list

-- calls that may be made may be made behind an entry that isn't wrong
pub asked_on : (judge next : JudgeFields) (es : List Entry) (i : ℕ) (d : Entry) → IsPlan judge.plan
    → IsStateOf judge.plan judge.state → i < length es → next ≡ heard judge (get_or es i d)
    → (judge.verdict ≡ Legal → AreAskedFrom judge.plan judge.state (drop i es)) → next.verdict ≡ Legal
    → AreAskedFrom next.plan next.state (drop (i + 1) es)
asked_on judge next es i d is line lt after asked legal = go judge.verdict refl after where
  e : Entry
  e = get_or es i d

  go : (verdict : Verdict) → judge.verdict ≡ verdict → next ≡ heard_by verdict judge e
      → AreAskedFrom next.plan next.state (drop (i + 1) es)
  go Legal was same =
      subst (λ (n : JudgeFields). AreAskedFrom n.plan n.state (drop (i + 1) es)) (sym same)
      (asked_behind judge.plan judge.state (after_entry judge.plan judge.state e) es i d is line lt refl (asked was))
  go (WrongAt k said law) was same =
      absurd (apart next.verdict legal (ap (λ (n : JudgeFields). n.verdict) same ∙ was)) where
        apart : (v : Verdict) → v ≡ Legal → v ≡ WrongAt k said law → ⊥
        apart v one other = cc

-- when one entry has been heard the rest remains to be heard
pub heard_rest : (judge next whole : JudgeFields) (es : List Entry) (i : ℕ) (d : Entry) → i < length es
    → next ≡ heard judge (get_or es i d) → heard_all judge (drop i es) ≡ whole
    → heard_all next (drop (i + 1) es) ≡ whole
heard_rest judge next whole es i d lt after so_far =
    ap (λ (n : JudgeFields). heard_all n (drop (i + 1) es)) after
    ∙ sym (ap (heard_all judge) (drop_more es i d lt)) ∙ so_far

-- behind the last no entry is heard
pub heard_end : (judge whole : JudgeFields) (es : List Entry) (i : ℕ) → length es ≤ i
    → heard_all judge (drop i es) ≡ whole → judge ≡ whole
heard_end judge whole es i le so_far = sym (ap (heard_all judge) (drop_all i es le)) ∙ so_far

-- an entry counts
pub heard_counts : (judge : JudgeFields) (e : Entry) → (heard judge e).count ≡ judge.count + 1
heard_counts judge e = go judge.verdict where
  go : (verdict : Verdict) → (heard_by verdict judge e).count ≡ judge.count + 1
  go Legal = refl
  go (WrongAt k said law) = refl

-- and the plan stays
pub heard_stays : (judge : JudgeFields) (e : Entry) → (heard judge e).plan ≡ judge.plan
heard_stays judge e = go judge.verdict where
  go : (verdict : Verdict) → (heard_by verdict judge e).plan ≡ judge.plan
  go Legal = refl
  go (WrongAt k said law) = refl

-- ---- an entry more

-- an entry that is read is one that the judge may hear
pub may_hear : (so_far : SoFar) (judge : JudgeFields) (e : Entry) → HasHeard so_far judge
    → IsBehind so_far.plan so_far.moments e → MayHear judge e
may_hear so_far judge e has behind legal = record {
  known = subst (λ (plan : PlanFields). KnowsCall plan e.box_no e.call) (sym has.plan) behind.spelled.call;
  later = subst (λ (m : ℕ). m ≤ e.call.moment) (sym (has.moments legal e.box_no)) behind.later;
}

-- the last moments of the boxes after an entry, on the line as it is read
moments_on : (plan : PlanFields) (state : LineState) (moments : List ℕ) (e : Entry) → IsStateOf plan state
    → length moments ≡ length plan.boxes → e.box_no < length plan.boxes
    → ((b : ℕ) → (box_at state b).moment ≡ get_or moments b 0) → (b : ℕ)
    → (box_at (step plan state e.box_no e.call).after b).moment ≡ get_or (entry_onto (record {
      plan = plan;
      moments = moments;
      count = 0;
    }) e).moments b 0
moments_on plan state moments e shape each in_line before b = elim (eqb_tells e.box_no b) [
  | inl same ↦
      let boxes = shape.boxes in
      let here : (box_at (step plan state e.box_no e.call).after e.box_no).moment ≡ e.call.moment =
      moment_here plan state e.box_no e.call (omega (arith, boxes, in_line)) in
      let read : get_or (entry_onto (record { plan = plan; moments = moments; count = 0 }) e).moments e.box_no 0
      ≡ e.call.moment =
      get_or-set_same moments e.box_no e.call.moment 0 (omega (arith, each, in_line)) in
      subst (λ (x : ℕ). (box_at (step plan state e.box_no e.call).after x).moment
      ≡ get_or (entry_onto (record { plan = plan; moments = moments; count = 0 }) e).moments x 0) same.1
      (here ∙ sym read)
  | inr differ ↦
      let other : b ≢ e.box_no = λ f. differ.1 (sym f) in
      ap (λ here. here.moment) (other_box plan state e.box_no b e.call other)
      ∙ before b ∙ sym (get_or-set_other moments e.box_no b e.call.moment 0 other)
]

-- an entry that is read and heard leaves reader and judge together
pub heard_on : (so_far : SoFar) (judge : JudgeFields) (e : Entry) → IsStateOf (heard judge e).plan (heard judge e).state
    → HasHeard so_far judge → IsBehind so_far.plan so_far.moments e
    → HasHeard (entry_onto so_far e) (heard judge e)
heard_on so_far judge e after has behind = go judge.verdict refl after where
  in_line : e.box_no < length judge.plan.boxes
  in_line = subst (λ (plan : PlanFields). e.box_no < length plan.boxes) (sym has.plan) behind.spelled.box

  every : length so_far.moments ≡ length judge.plan.boxes
  every = has.each ∙ ap (λ (plan : PlanFields). length plan.boxes) (sym has.plan)

  longer : length (entry_onto so_far e).moments ≡ length so_far.plan.boxes
  longer = length-set so_far.moments e.box_no e.call.moment ∙ has.each

  then_heard : (same : Bool) → judge.verdict ≡ Legal
      → IsStateOf judge.plan (step judge.plan judge.state e.box_no e.call).after
      → HasHeard (entry_onto so_far e) (heard_as same judge e (step judge.plan judge.state e.box_no e.call))
  then_heard same legal line = let count = has.count in record {
    plan = has.plan;
    count = omega (arith, count);
    each = longer;
    line = line;
    moments = λ _. moments_on judge.plan judge.state so_far.moments e has.line every in_line (has.moments legal);
  }

  go : (verdict : Verdict) → judge.verdict ≡ verdict
      → IsStateOf (heard_by verdict judge e).plan (heard_by verdict judge e).state
      → HasHeard (entry_onto so_far e) (heard_by verdict judge e)
  go Legal legal line =
      then_heard (same_reply e.reply (step judge.plan judge.state e.box_no e.call).reply) legal line
  go (WrongAt k said law) wrong line = let count = has.count in record {
    plan = has.plan;
    count = omega (arith, count);
    each = longer;
    line = line;
    moments = λ legal. absurd (apart judge.verdict legal wrong);
  } where
    apart : (v : Verdict) → v ≡ Legal → v ≡ WrongAt k said law → ⊥
    apart v legal wrong = cc

-- ---- as long as no entry is wrong

-- what is legal with an entry was legal before it
pub was_legal : (judge : JudgeFields) (e : Entry) → (heard judge e).verdict ≡ Legal → judge.verdict ≡ Legal
was_legal judge e legal = go judge.verdict refl legal where
  go : (verdict : Verdict) → judge.verdict ≡ verdict → (heard_by verdict judge e).verdict ≡ Legal
      → judge.verdict ≡ Legal
  go Legal was now = was
  go (WrongAt k said law) was now = now

right : (same : Bool) (k : ℕ) (said law : Reply) → cond same Legal (WrongAt k said law) ≡ Legal → same ≡ true
right true k said law e = refl
right false k said law e = absurd cc

-- the entries are a legal history, behind which the judge's line stands
pub heard_legal : (plan : PlanFields) (judge : JudgeFields) (es : List Entry) (e : Entry) → judge.plan ≡ plan
    → judge.state ≡ state_of plan es → IsLegal plan es → MayHear judge e → (heard judge e).verdict ≡ Legal
    → IsLegal plan (es ++ e ∷ []) × ((heard judge e).state ≡ state_of plan (es ++ e ∷ []))
heard_legal plan judge es e same at before may legal = go judge.verdict refl legal where
  was : judge.verdict ≡ Legal
  was = was_legal judge e legal

  there : (p : PlanFields) (s : LineState) → judge.plan ≡ p → judge.state ≡ s → MayCall p s e.box_no e.call
  there p s is place = rw (← is, ← place) (may was)

  done : step judge.plan judge.state e.box_no e.call ≡ step plan (state_of plan es) e.box_no e.call
  done = ap (λ (p : PlanFields). step p judge.state e.box_no e.call) same
      ∙ ap (λ (s : LineState). step plan s e.box_no e.call) at

  go : (verdict : Verdict) → judge.verdict ≡ verdict → (heard_by verdict judge e).verdict ≡ Legal
      → IsLegal plan (es ++ e ∷ []) × ((heard_by verdict judge e).state ≡ state_of plan (es ++ e ∷ []))
  go Legal is now =
      let law : Reply = (step judge.plan judge.state e.box_no e.call).reply in
      let told : e.reply ≡ (step plan (state_of plan es) e.box_no e.call).reply =
      same_reply-true e.reply law (right (same_reply e.reply law) _ _ _ now) ∙ ap (λ (d : Done). d.reply) done in (
        legal_both plan (opening_state plan) es (e ∷ []) before (there plan (state_of plan es) same at, told, tt),
        ap (λ (d : Done). d.after) done ∙ sym (state_grows plan es e),
      )
  go (WrongAt k said law) is now = absurd (apart judge.verdict was is) where
    apart : (v : Verdict) → v ≡ Legal → v ≡ WrongAt k said law → ⊥
    apart v one other = cc
