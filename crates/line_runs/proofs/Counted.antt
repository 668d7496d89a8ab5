-- What is counted along a journal.
use mir.Val.{bool_byte}
use Rattle.std.proofs.Common.{◌≡◌, ℕ, ◌+◌, ◌<◌, ◌≤◌, ◌^◌, List, [], ◌∷◌, ◌++◌, Bool, true, false, not, length}
use Rattle.std.proofs.Common.{drop, replicate, take, refl, sym, ap, subst, ◌∙◌, append_assoc, arith}
use Rattle.std.specs.Prelude.{filter, if◌then◌else◌}
use Rattle.std.proofs.lemmas.List.Filters.{length-filter_both}
use Rattle.line_plan.specs.Plans.{IsPlan, PlanFields}
use Rattle.line_law.specs.declared.call.Entry.{Entry}
use Rattle.line_law.specs.declared.ways.ByWay.{ByWay}
use Rattle.line_law.specs.History.{IsLegal}
use Rattle.line_law.specs.Refusals.{is_refused}
use Rattle.line_report.specs.Asked.{AreFewEntries}
use Rattle.line_report.specs.Between.{CountsOn, MayGain, no_trains, pairs_text, trains_at}
use Rattle.line_report.specs.Refusals.{refused_count}
use Rattle.line_report.specs.declared.sections.HeldTrains.{HeldTrains}
use Rattle.line_report.proofs.PairTexts.{all_pairs}
use Rattle.line_report.proofs.PairsHeld.{AreCounted, counts_end, counts_next, pairs_first, room_ahead}
use Rattle.line_runs.specs.Counting.{AreCounts}
use Rattle.line_runs.specs.Made.{counts_text, summary_text}

-- so many calls were refused of those behind, and these are the trains after them
pub record AreCountedTo (plan : PlanFields) (es ahead : List Entry) (refused : ℕ) (trains : List (ByWay HeldTrains))
    : Type 0 where
  pub done : ℕ
  pub rest : ahead ≡ drop done es
  pub counted : AreCounted plan es done trains
  pub told : refused + refused_count ahead ≡ refused_count es

-- before the first entry
pub counted_none : (n : ℕ) {plan : PlanFields} {es ahead : List Entry} {trains : List (ByWay HeldTrains)} → IsPlan plan
    → IsLegal plan es → n + 1 ≡ length plan.boxes → trains ≡ replicate n no_trains → ahead ≡ es
    → AreCountedTo plan es ahead 0 trains
counted_none n {plan} {es} {ahead} {trains} is legal pairs none all =
    let same : refused_count ahead ≡ refused_count es = ap (λ (xs : List Entry). refused_count xs) all in
    record {
      done = 0;
      rest = all;
      counted = pairs_first plan es n trains is legal pairs none;
      told = omega (arith, same);
    }

-- how many are refused of one more
refused_more : (e : Entry) (es : List Entry)
    → refused_count (e ∷ es) ≡ bool_byte (is_refused e.reply) + refused_count es
refused_more e es = go (is_refused e.reply) where
  go : (b : Bool) → length (if b then e ∷ filter (λ x. is_refused x.reply) es else filter (λ x. is_refused x.reply) es)
      ≡ bool_byte b + refused_count es
  go true = omega arith
  go false = omega arith

-- one entry more
pub counted_next : {plan : PlanFields} {es ahead rest : List Entry} {e : Entry} {refused more len : ℕ}
    {read old new : List (ByWay HeldTrains)} → ahead ≡ e ∷ rest → read ≡ old → CountsOn plan e read new
    → len ≡ length old → more ≡ refused + bool_byte (is_refused e.reply) → AreCountedTo plan es ahead refused old
    → AreCountedTo plan es rest more (take len (new ++ drop (length new) old))
counted_next {plan} {es} {ahead} {rest} {e} {refused} {more} {len} {read} {old} {new} next same counts is one so =
    let on = counts_next plan es so.done len e rest read old new (sym next ∙ so.rest) same counts is so.counted in
    let told : refused + refused_count (e ∷ rest) ≡ refused_count es =
    subst (λ (xs : List Entry). refused + refused_count xs ≡ refused_count es) next so.told in
    let split = refused_more e rest in
    record { done = so.done + 1; rest = on.1; counted = on.0; told = omega (arith, told, split, one) }

-- their number fits
refused_few : (es : List Entry) → refused_count es ≤ length es
refused_few es =
    omega (
      arith,
      length-filter_both (λ (e : Entry). is_refused e.reply) (λ (e : Entry). not (is_refused e.reply)) (λ _. refl) es,
    )

-- the refused replies that are counted along a journal of few entries stay below 2^64 with the next one
pub counted_fits : {plan : PlanFields} {es ahead rest : List Entry} {e : Entry} {refused one : ℕ}
    {trains : List (ByWay HeldTrains)} → ahead ≡ e ∷ rest → AreFewEntries es
    → one ≡ bool_byte (is_refused e.reply) → AreCountedTo plan es ahead refused trains
    → refused + one < 2 ^ 64
counted_fits {plan} {es} {ahead} {rest} {e} {refused} {one} {trains} next few is so =
    let told : refused + refused_count (e ∷ rest) ≡ refused_count es =
    subst (λ (xs : List Entry). refused + refused_count xs ≡ refused_count es) next so.told in
    let split = refused_more e rest in
    let most = refused_few es in
    omega (arith, told, split, is, most, few)

-- each pair has room for it
pub room_next : {plan : PlanFields} {es ahead rest : List Entry} {e : Entry} {refused : ℕ}
    {read trains : List (ByWay HeldTrains)} → ahead ≡ e ∷ rest → AreFewEntries es → read ≡ trains
    → AreCountedTo plan es ahead refused trains → (p : ℕ) → MayGain (trains_at read p)
room_next {plan} {es} {ahead} {rest} {e} {refused} {read} {trains} next few same so =
    room_ahead plan es so.done e rest read trains (sym next ∙ so.rest) few same so.counted

-- behind the last
pub counted_all : {plan : PlanFields} {es ahead : List Entry} {refused : ℕ} {trains : List (ByWay HeldTrains)}
    → ahead ≡ [] → AreCountedTo plan es ahead refused trains → AreCounts plan es refused trains
counted_all {plan} {es} {ahead} {refused} {trains} none so =
    let told : refused + 0 ≡ refused_count es =
    subst (λ (xs : List Entry). refused + refused_count xs ≡ refused_count es) none so.told in
    record {
      refused_is = omega (arith, told);
      most = counts_end plan es so.done trains (sym none ∙ so.rest) so.counted;
    }

-- the summary, by what is counted
pub summary_told : (n : ℕ) (plan : PlanFields) (es : List Entry) (refused : ℕ) (trains : List (ByWay HeldTrains))
    (old counted new : List ℕ) → AreCounts plan es refused trains
    → counted ≡ old ++ counts_text n plan (length es) refused → new ≡ counted ++ pairs_text plan 0 trains
    → new ≡ old ++ summary_text n plan es
unfolding summary_text
summary_told n plan es refused trains old counted new are first last =
    last
    ∙ ap (λ (t : List ℕ). t ++ pairs_text plan 0 trains) first
    ∙ append_assoc old (counts_text n plan (length es) refused) (pairs_text plan 0 trains)
    ∙ ap (λ (k : ℕ). old ++ (counts_text n plan (length es) k ++ pairs_text plan 0 trains)) are.refused_is
    ∙ ap (λ (t : List ℕ). old ++ (counts_text n plan (length es) (refused_count es) ++ t))
    (all_pairs plan es trains are.most)
