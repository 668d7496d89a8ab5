-- A box of a post that took in another is as it was.
use Rattle.std.proofs.Common.{◌≡◌, ◌≢◌, ℕ, List, [], ◌∷◌, ◌++◌, length, Option, Some, refl, sym, ap, subst, ◌∙◌}
use Rattle.line_plan.specs.Plans.{IsPlan, PlanFields}
use Rattle.line_law.specs.declared.state.BoxState.{BoxState}
use Rattle.line_law.specs.History.{IsLegal, state_of}
use Rattle.line_law.specs.Law.{box_plan_of}
use Rattle.line_law.specs.States.{box_at, opening_box}
use Rattle.instrument_rule.specs.declared.view.View.{View}
use Rattle.instrument_rule.specs.Calls.{Sits}
use Rattle.instrument_rule.specs.Rule.{Seen}
use Rattle.instrument_rule.specs.Told.{LegalFor}
use Rattle.instrument_rule.specs.Views.{both_views, caller_of, settled}
use Rattle.rule_tests.specs.Instruments.{Fresh}
use Rattle.rule_tests.proofs.Hands.{same_own, same_part}

-- its caller has the same entries in what the post has then seen
still_fresh : (plan : PlanFields) → IsPlan plan → (v u : View) → Fresh plan v → Sits plan u → u.posts ≢ []
    → caller_of u.posts ≡ caller_of v.posts → Seen u.seen v.posts v.seen → IsLegal plan u.seen → Fresh plan u
still_fresh plan is v u f sits holds caller seen legal = record {
  knows = record {
    sits = sits;
    holds = holds;
    early = ap (λ (h : BoxState). h.moment) same ∙ f.knows.early;
    rung_down = ap (λ (h : BoxState). h.rung.down) same ∙ f.knows.rung_down;
    counted = ap (λ (b : ℕ). length (Rattle.line_law.specs.History.part_of b u.seen)) caller
        ∙ same_part plan is v 0 0 f.knows u.seen seen;
    few = f.knows.few;
  };
  opens = same ∙ (f.opens ∙ ap (λ (b : ℕ). opening_box (length plan.trains) (box_plan_of plan b)) (sym caller));
}
  where
    same : box_at (state_of plan u.seen) (caller_of u.posts) ≡ box_at (state_of plan v.seen) (caller_of v.posts)
    same = ap (λ (b : ℕ). box_at (state_of plan u.seen) b) caller ∙ same_own plan is v 0 0 f.knows u.seen seen legal

legal_for : (plan : PlanFields) (u : View) → u.plan ≡ Some plan → LegalFor u.plan u.seen → IsLegal plan u.seen
legal_for plan u its legal = subst (λ (o : Option PlanFields). LegalFor o u.seen) its legal

-- where a post that holds no box takes in one whose box has done nothing, that box calls from it, and has done
-- nothing still
pub over : (plan : PlanFields) → IsPlan plan → (v w u : View) → Sits plan v → v.posts ≡ [] → Fresh plan w
    → u ≡ settled (both_views v w) → Seen u.seen w.posts w.seen → LegalFor u.plan u.seen
    → Fresh plan u × (caller_of u.posts ≡ caller_of w.posts)
over plan is v w u sits none f now seen legal =
    let its : u.plan ≡ Some plan = ap (λ (x : View). x.plan) now ∙ sits.0 in
    let posts : u.posts ≡ w.posts = ap (λ (x : View). x.posts) now ∙ ap (λ (bs : List ℕ). bs ++ w.posts) none in (
      still_fresh plan is w u f (its, ap (λ (x : View). x.olds) now) (λ e. f.knows.holds (sym posts ∙ e))
          (ap caller_of posts)
          seen (legal_for plan u its legal),
      ap caller_of posts,
    )

first_stays : (bs cs : List ℕ) → bs ≢ [] → caller_of (bs ++ cs) ≡ caller_of bs
first_stays [] cs some = absurd (some refl)
first_stays (b ∷ bs) cs some = refl

some_stays : (bs cs : List ℕ) → bs ≢ [] → bs ++ cs ≢ []
some_stays [] cs some e = absurd (some refl)
some_stays (b ∷ bs) cs some e = absurd cc

-- where a post whose box has done nothing takes in another, its box calls from it still, and has done nothing still
pub beside : (plan : PlanFields) → IsPlan plan → (v w u : View) → Fresh plan v
    → u ≡ settled (both_views v w) → Seen u.seen v.posts v.seen → LegalFor u.plan u.seen
    → Fresh plan u × (caller_of u.posts ≡ caller_of v.posts)
beside plan is v w u f now seen legal =
    let its : u.plan ≡ Some plan = ap (λ (x : View). x.plan) now ∙ f.knows.sits.0 in
    let posts : u.posts ≡ v.posts ++ w.posts = ap (λ (x : View). x.posts) now in
    let caller : caller_of u.posts ≡ caller_of v.posts =
    ap caller_of posts ∙ first_stays v.posts w.posts f.knows.holds in (
      still_fresh plan is v u f (its, ap (λ (x : View). x.olds) now)
          (λ e. some_stays v.posts w.posts f.knows.holds (sym posts ∙ e)) caller seen (legal_for plan u its legal),
      caller,
    )
