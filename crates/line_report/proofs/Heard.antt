-- What a judge has heard behind the entries of a journal.
use Rattle.std.proofs.Common.{◌≡◌, ℕ, zero, suc, ◌+◌, ◌-◌, Bool, true, false, cond, List, [], ◌∷◌, length, map, refl}
use Rattle.std.proofs.Common.{sym, ap, subst, ◌∙◌, arith}
use Rattle.std.specs.Prelude.{slice_index_or}
use Rattle.line_plan.specs.Plans.{PlanFields}
use Rattle.line_law.specs.declared.call.Entry.{Entry}
use Rattle.line_law.specs.declared.call.Reply.{Reply}
use Rattle.line_law.specs.History.{after_entry}
use Rattle.line_law.specs.Law.{Done, step}
use Rattle.line_law.specs.Replies.{same_reply}
use Rattle.line_report.specs.Verdicts.{JudgeFields, box_of_entry, found_by, found_text, heard, heard_all, heard_as}
use Rattle.line_report.specs.Verdicts.{heard_by, judgement_text, opening_judge, verdict_from, verdict_of, verdict_text}
use Rattle.line_report.specs.declared.judging.Verdict.{Verdict}
use Rattle.line_report.specs.declared.judging.Verdict.TheVariants.{Legal, WrongAt}

-- the box of the wrong entry is that of entry k of these, from the one behind so many on
record IsBoxAt (count : ℕ) (es : List Entry) (k b : ℕ) : Type 0 where
  place : ℕ
  is : k ≡ count + 1 + place
  box : b ≡ slice_index_or (map (λ e. e.box_no) es) place 0

-- what a judge finds behind these entries
record IsFound (judge : JudgeFields) (es : List Entry) (last : JudgeFields) : Type 0 where
  plan : last.plan ≡ judge.plan
  verdict : last.verdict ≡ verdict_from judge.plan judge.state (judge.count + 1) es
  count : last.count ≡ judge.count + length es
  box : (k : ℕ) (said law : Reply) → last.verdict ≡ WrongAt k said law → IsBoxAt judge.count es k last.box_no

-- ---- behind a wrong entry

record IsLost (judge last : JudgeFields) (n : ℕ) : Type 0 where
  plan : last.plan ≡ judge.plan
  verdict : last.verdict ≡ judge.verdict
  count : last.count ≡ judge.count + n
  box : last.box_no ≡ judge.box_no

lost : (judge : JudgeFields) (es : List Entry) (k : ℕ) (said law : Reply) → judge.verdict ≡ WrongAt k said law
    → IsLost judge (heard_all judge es) (length es)
lost judge [] k said law wrong = record { plan = refl; verdict = refl; count = omega arith; box = refl }
lost judge (e ∷ es) k said law wrong =
    let next : JudgeFields = record judge { count = judge.count + 1 } in
    let is : heard judge e ≡ next = ap (λ (v : Verdict). heard_by v judge e) wrong in
    let later = lost next es k said law wrong in
    let count = later.count in
    subst (λ (n : JudgeFields). IsLost judge (heard_all n es) (length (e ∷ es))) (sym is) (record {
      plan = later.plan;
      verdict = later.verdict;
      count = omega (arith, count);
      box = later.box;
    })

-- ---- as long as none is wrong

found : (judge : JudgeFields) (es : List Entry) → judge.verdict ≡ Legal → IsFound judge es (heard_all judge es)
found judge [] legal = record {
  plan = refl;
  verdict = legal;
  count = omega arith;
  box = λ k said law wrong. absurd (apart _ k said law legal wrong);
} where
  apart : (v : Verdict) (k : ℕ) (said law : Reply) → v ≡ Legal → v ≡ WrongAt k said law → ⊥
  apart v k said law legal wrong = cc
found judge (e ∷ es) legal =
    let done : Done = step judge.plan judge.state e.box_no e.call in
    let is : heard judge e ≡ heard_as (same_reply e.reply done.reply) judge e done =
    ap (λ (v : Verdict). heard_by v judge e) legal in
    subst (λ (n : JudgeFields). IsFound judge (e ∷ es) (heard_all n es)) (sym is)
    (go (same_reply e.reply done.reply) done refl refl (λ n right. found n es right)) where
      by_law : (same : Bool) (done : Done) → done ≡ step judge.plan judge.state e.box_no e.call
          → same_reply e.reply done.reply ≡ same
          → verdict_from judge.plan judge.state (judge.count + 1) (e ∷ es)
          ≡ cond same (verdict_from judge.plan done.after (judge.count + 1 + 1) es)
          (WrongAt (judge.count + 1) e.reply done.reply)
      by_law same done told is =
          subst (λ (d : Done). same_reply e.reply d.reply ≡ same
          → verdict_from judge.plan judge.state (judge.count + 1) (e ∷ es)
          ≡ cond same (verdict_from judge.plan d.after (judge.count + 1 + 1) es)
          (WrongAt (judge.count + 1) e.reply d.reply)) (sym told)
          (λ here. ap (λ (b : Bool). cond b
          (verdict_from judge.plan (after_entry judge.plan judge.state e) (judge.count + 1 + 1) es)
          (WrongAt (judge.count + 1) e.reply (step judge.plan judge.state e.box_no e.call).reply)) here) is

      number_of : (n k : ℕ) (one other said law : Reply) → WrongAt n one other ≡ WrongAt k said law
          → n ≡ k
      number_of n k one other said law e = cc

      go : (same : Bool) (done : Done) → done ≡ step judge.plan judge.state e.box_no e.call
          → same_reply e.reply done.reply ≡ same
          → ((n : JudgeFields) → n.verdict ≡ Legal → IsFound n es (heard_all n es))
          → IsFound judge (e ∷ es) (heard_all (heard_as same judge e done) es)
      go true done told same more =
          let later = more (heard_as true judge e done) refl in
          let count = later.count in
          record {
            plan = later.plan;
            verdict = later.verdict
                ∙ sym (by_law true done told same);
            count = omega (arith, count);
            box = λ k said law wrong.
                let b = later.box k said law wrong in
                let is = b.is in
                record { place = suc b.place; is = omega (arith, is); box = b.box };
          }
      go false done told same more =
          let later = lost (heard_as false judge e done) es (judge.count + 1) e.reply done.reply refl in
          let count = later.count in
          record {
            plan = later.plan;
            verdict = later.verdict ∙ sym (by_law false done told same);
            count = omega (arith, count);
            box = λ k said law wrong.
                let number : judge.count + 1 ≡ k =
                number_of (judge.count + 1) k e.reply done.reply said law (sym later.verdict ∙ wrong) in
                record { place = zero; is = omega (arith, number); box = later.box };
          }

-- ---- a whole journal

heard_found : (plan : PlanFields) (es : List Entry)
    → IsFound (opening_judge plan) es (heard_all (opening_judge plan) es)
heard_found plan es = found (opening_judge plan) es refl

-- the verdict on it
pub all_heard : (plan : PlanFields) (es : List Entry)
    → (heard_all (opening_judge plan) es).verdict ≡ verdict_of plan es
all_heard plan es = (heard_found plan es).verdict

-- a judge keeps his plan
pub heard_plan : (plan : PlanFields) (es : List Entry) → (heard_all (opening_judge plan) es).plan ≡ plan
heard_plan plan es = (heard_found plan es).plan

-- a judge counts the entries that he has heard
pub heard_count : (plan : PlanFields) (es : List Entry) → (heard_all (opening_judge plan) es).count ≡ length es
heard_count plan es = let count = (heard_found plan es).count in omega (arith, count)

-- the box of the wrong entry
pub heard_box : (plan : PlanFields) (es : List Entry) (k : ℕ) (said law : Reply)
    → verdict_of plan es ≡ WrongAt k said law
    → (heard_all (opening_judge plan) es).box_no ≡ box_of_entry es k
heard_box plan es k said law wrong =
    let b = (heard_found plan es).box k said law ((heard_found plan es).verdict ∙ wrong) in
    let is = b.is in
    let place : b.place ≡ k - 1 = omega (arith, is) in
    b.box ∙ ap (λ (p : ℕ). slice_index_or (map (λ e. e.box_no) es) p 0) place

-- what is printed of it
pub heard_text : (plan : PlanFields) (es : List Entry)
    → found_text (heard_all (opening_judge plan) es) ≡ judgement_text plan es
unfolding judgement_text
heard_text plan es = go (verdict_of plan es) refl where
  last : JudgeFields
  last = heard_all (opening_judge plan) es

  go : (verdict : Verdict) → verdict_of plan es ≡ verdict
      → found_by last.verdict last ≡ verdict_text plan es (verdict_of plan es)
  go Legal is =
      rw (all_heard plan es, is, heard_count plan es) refl
  go (WrongAt k said law) is =
      rw (all_heard plan es, is, heard_plan plan es, heard_box plan es k said law is) refl
