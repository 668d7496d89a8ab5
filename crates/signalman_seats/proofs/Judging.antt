-- What looks come to, one and one after another.
use Rattle.std.proofs.Common.{◌≡◌, ◌≢◌, ℕ, ◌+◌, Bool, true, false, [], Option, Some, None, Ok, Err}
use Rattle.std.proofs.Common.{sym, refl, ap, ◌∙◌, subst, arith}
use Rattle.std.specs.Prelude.{Result, IfErr, IfOk, IfSome}
use Rattle.block_words.specs.declared.WordOp.{WordOp}
use Rattle.line_plan.specs.Plans.{IsPlan, PlanFields}
use Rattle.line_law.specs.declared.call.Call.{Call}
use Rattle.line_law.specs.Law.{box_plan_of}
use Rattle.word_laws.specs.Operations.{met_by}
use Rattle.word_laws.specs.WordNumbers.{one_if}
use Rattle.box_desk.specs.declared.ask.WordAsk.{WordAsk}
use Rattle.box_desk.specs.Desks.{DeskFields}
use Rattle.instrument_rule.specs.declared.view.View.{View}
use Rattle.instrument_rule.specs.Calls.{MayStep, Sits, here_at}
use Rattle.instrument_rule.specs.Told.{Tells}
use Rattle.instrument_rule.specs.Views.{caller_of}
use Rattle.signalman_seats.specs.Asking.{AsksAt, CameTo, HasShown, IsMissed, LookedOn, Waited, Watched}
use Rattle.signalman_seats.proofs.Looking.{IsAsk, alone_decided, asks_after, await_yes, awaited, counted, decided_after}
use Rattle.signalman_seats.proofs.Looking.{differ, goes_on, is_ask, last_decided, may_after, more_waits, same_here}
use Rattle.signalman_seats.proofs.Looking.{same_met, same_test, second_counted, second_decided, second_hits, sits_after}

-- ---- one look

module _ (plan : PlanFields) (desk : DeskFields) (ask : WordAsk) (last : Bool) (v : View) (n : ℕ) (w : View)
    (is : IsPlan plan) (h : HasShown plan desk ask last v n w) (t : Bool)
    (test : t ≡ met_by desk.box_plan ask.call.act desk.here n) where
  pub by_second : (op : WordOp) (m : ℕ) (x : View) → t ≡ true → ask.second ≡ Some op
      → Tells plan ask.call op true w m x → CameTo plan ask last v (Ok m) x
  by_second op m x hit two then_told = record {
    counted = second_counted plan v desk ask last n w is h.sits h.may h.asks h.told t test op m x hit two then_told;
    decided = second_decided plan v desk ask last n w is h.sits h.may h.asks h.told t test op m x hit two then_told;
    hit = λ more. second_hits plan v desk ask last n w is h.sits h.may h.asks h.told t test op m x hit two
        (await_yes ask.awaits ask.awaits last refl h.once more) then_told;
    waited = tt;
    over = λ _. refl;
  }

  pub by_first_alone : t ≡ true → ask.second ≡ None → CameTo plan ask last v (Ok n) w
  by_first_alone hit none = record {
    counted = counted plan v desk ask last n w is h.sits h.may h.asks h.told t test;
    decided = alone_decided plan v desk ask last n w is h.sits h.may h.asks h.told t test hit none;
    hit = λ _. same_test plan v desk ask n t h.asks test ∙ hit;
    waited = tt;
    over = λ _. refl;
  }

  pub by_last : t ≡ false → last ≡ true → CameTo plan ask last v (Ok n) w
  by_last miss over = record {
    counted = counted plan v desk ask last n w is h.sits h.may h.asks h.told t test;
    decided = last_decided plan v desk ask last n w is h.sits h.may h.asks h.told t test miss over;
    hit = λ more. absurd (differ (sym over ∙ more));
    waited = tt;
    over = λ _. refl;
  }

  pub unmet : t ≡ false → last ≡ false → CameTo plan ask last v (Err n) w
  unmet miss more = record {
    counted = counted plan v desk ask last n w is h.sits h.may h.asks h.told t test;
    decided = tt;
    hit = λ _. tt;
    waited = (
      goes_on plan v desk ask last n w is h.sits h.may h.asks h.told t test miss more h.once,
      same_test plan v desk ask n t h.asks test ∙ miss,
    );
    over = λ over. absurd (differ (sym over ∙ more));
  }

-- ---- looks after looks

-- what a number is after looks it was before them
pub as_before : (plan : PlanFields) (v w : View) (l : ℕ) (call : Call) (n : ℕ) (t : Bool) → Watched plan v l w
    → met_by (box_plan_of plan (caller_of w.posts)) call.act (here_at plan w.seen (caller_of w.posts) call) n ≡ t
    → met_by (box_plan_of plan (caller_of v.posts)) call.act (here_at plan v.seen (caller_of v.posts) call) n ≡ t
as_before plan v w l call n t h is =
    let there = same_here plan v w l call h in
    let posts = sym h.posts in
    (λ i. met_by (box_plan_of plan (caller_of (posts i))) call.act (there i) n) ∙ is

-- looks of an await, after others that were in vain
pub then_on : (plan : PlanFields) (call : Call) (v w x : View) (l m : ℕ) (found : Result ℕ ℕ) → v.posts ≢ []
    → Waited plan call v l w → LookedOn plan call w m found x → LookedOn plan call v (l + m) found x
then_on plan call v w x l m (Ok n) holds h on = record {
  counted = let a = h.watched.looked in let b = on.counted in omega arith;
  decided = decided_after plan call v w x l n m (l + m) (omega arith) (λ _ _. refl) holds h on.decided;
  hit = as_before plan v w l call n true h.watched on.hit;
  waited = tt;
}
then_on plan call v w x l m (Err n) holds h on = record {
  counted = let a = h.watched.looked in let b = on.counted in omega arith;
  decided = tt;
  hit = tt;
  waited = (
    more_waits plan call v w x l m holds h on.waited.0,
    as_before plan v w l call n false h.watched on.waited.1,
  );
}

-- a look of an await which is not its last is looks, one in all
pub one_look : (plan : PlanFields) (ask : WordAsk) (v w : View) (found : Result ℕ ℕ) → ask.awaits ≡ true
    → CameTo plan ask false v found w → LookedOn plan ask.call v 1 found w
one_look plan ask v w (Ok n) awaits came = record {
  counted = came.counted ∙ ap (λ (a : Bool). v.looks + one_if a) awaits;
  decided = came.decided;
  hit = came.hit refl;
  waited = tt;
}
one_look plan ask v w (Err n) awaits came = record {
  counted = came.counted ∙ ap (λ (a : Bool). v.looks + one_if a) awaits;
  decided = tt;
  hit = tt;
  waited = came.waited;
}

-- a look that shows a number which falls short is in vain
pub in_vain_again : (plan : PlanFields) (desk : DeskFields) (ask : WordAsk) (v w x : View) (l n : ℕ) → IsPlan plan
    → MayStep plan ask.call v → AsksAt plan v desk ask → ask.awaits ≡ true → IsMissed plan ask.call v n
    → Waited plan ask.call v l w → Tells plan ask.call ask.first false w n x → Waited plan ask.call v (l + 1) x
in_vain_again plan desk ask v w x l n is may at awaits miss h told =
    more_waits plan ask.call v w x l 1 may.holds h (awaited plan ask false w n x is
    (may_after plan v w l ask.call h.watched may) asked told refl (asked.awaits ∙ awaits)
    (same_met plan v w l ask.call n h.watched miss))
  where
    asked : IsAsk plan w ask
    asked = is_ask plan w desk ask (asks_after plan v w l desk ask h.watched at)

-- after looks in vain an operation has shown what it shows
pub shows_then : (plan : PlanFields) (desk : DeskFields) (ask : WordAsk) (last : Bool) (v w x : View) (l n : ℕ)
    → Sits plan v → MayStep plan ask.call v → AsksAt plan v desk ask → (ask.awaits ≡ false → last ≡ true)
    → Waited plan ask.call v l w → Tells plan ask.call ask.first last w n x → HasShown plan desk ask last w n x
shows_then plan desk ask last v w x l n sits may at once h told = record {
  sits = sits_after plan v w l h.watched sits;
  may = may_after plan v w l ask.call h.watched may;
  asks = asks_after plan v w l desk ask h.watched at;
  once = once;
  told = told;
}

-- ---- what a result tells

-- what holds of a word that was met
pub of_ok : (P : ℕ → Type 0) (r : Result ℕ ℕ) (n : ℕ) → r ≡ Ok n → IfOk r P → P n
of_ok P r n e h = subst (λ (q : Result ℕ ℕ). IfOk q P) e h

-- what holds of a number that a look showed in vain
pub of_err : (P : ℕ → Type 0) (r : Result ℕ ℕ) (n : ℕ) → r ≡ Err n → IfErr r P → P n
of_err P r n e h = subst (λ (q : Result ℕ ℕ). IfErr q P) e h

-- what holds of a number holds of what is kept of it
pub of_same : (P : ℕ → Type 0) (o : Option ℕ) (n : ℕ) → P n → IfSome o (λ m. m ≡ n) → IfSome o P
of_same P None n p h = tt
of_same P (Some m) n p h = subst P (sym h) p
