-- The footprint law: a call is a function of its box and of one word, and changes nothing else.
use Rattle.std.proofs.Common.{List, ◌≡◌, ℕ, refl, sym, ap, subst, ◌∙◌}
use Rattle.std.proofs.lemmas.List.{get_or-set_same, get_or-set_other}
use Rattle.block_words.specs.declared.Way.{Way}
use Rattle.line_plan.specs.Plans.{IsPlan, PlanFields}
use Rattle.line_law.specs.declared.call.Call.{Call}
use Rattle.line_law.specs.declared.state.Bell.{Bell}
use Rattle.line_law.specs.declared.state.Block.{Block}
use Rattle.line_law.specs.declared.state.Passage.{Passage}
use Rattle.line_law.specs.declared.state.BoxState.{BoxState}
use Rattle.line_law.specs.declared.state.PairState.{PairState}
use Rattle.line_law.specs.Decisions.{Decision, Here, OnBell, OnBlock, OnPlainLine, Told, on_pair}
use Rattle.line_law.specs.States.{LineState, IsStateOf, box_at, no_state, opening_pair, pair_at}
use Rattle.line_law.specs.Law.{step, step_at, pair_of, box_plan_of}
use Rattle.line_law.specs.SectionFacts.{decided}
use Rattle.line_law.proofs.Words.{of_way-with, of_way-with_other}
use Rattle.line_law.specs.Known.{KnowsCall}
use Rattle.word_laws.specs.Footprint.{Kind, kind_of, kind_at, way_at, SameWord, SameOthers, HaveSameFootprint}
use Rattle.word_laws.specs.Footprint.{EndsAlike, KeepsOthers, decision_at}
use Rattle.line_law.proofs.Lines.{has_places}

-- ---- in one pair

-- two outcomes with one reply, one box and one word
record AreAlike (kind : Kind) (way : Way) (a b : Told PairState) : Type 0 where
  reply : a.reply ≡ b.reply
  here : a.here ≡ b.here
  word : SameWord kind way a.word b.word

alike : (d : Decision) (way : Way) (p q : PairState) → SameWord (kind_of d) way p q
    → AreAlike (kind_of d) way (on_pair way d p) (on_pair way d q)
alike (Here reply here) way p q same = record { reply = refl; here = refl; word = tt }
alike (OnBell act) way p q same =
    record {
      reply = ap (λ (w : Bell). (act w).reply) same;
      here = ap (λ (w : Bell). (act w).here) same;
      word = of_way-with p.bells way _ ∙ ap (λ (w : Bell). (act w).word) same ∙ sym (of_way-with q.bells way _);
    }
alike (OnBlock act) way p q same =
    record {
      reply = ap (λ (w : Block). (act w).reply) same;
      here = ap (λ (w : Block). (act w).here) same;
      word = of_way-with p.blocks way _ ∙ ap (λ (w : Block). (act w).word) same ∙ sym (of_way-with q.blocks way _);
    }
alike (OnPlainLine act) way p q same =
    record {
      reply = ap (λ (w : List Passage). (act w).reply) same;
      here = ap (λ (w : List Passage). (act w).here) same;
      word = of_way-with p.lines way _ ∙ ap (λ (w : List Passage). (act w).word) same ∙ sym (of_way-with q.lines way _);
    }

others_stay : (d : Decision) (way : Way) (p : PairState) → SameOthers (kind_of d) way p (on_pair way d p).word
others_stay (Here reply here) way p = refl
others_stay (OnBell act) way p = (of_way-with_other p.bells way _, refl, refl)
others_stay (OnBlock act) way p = (refl, of_way-with_other p.blocks way _, refl)
others_stay (OnPlainLine act) way p = (refl, refl, of_way-with_other p.lines way _)

call_alike : (plan : PlanFields) (b : ℕ) (call : Call) (x y : BoxState) (p q : PairState) → x ≡ y
    → SameWord (kind_of (decided plan b call x)) (way_at plan b call) p q
    → AreAlike (kind_of (decided plan b call x)) (way_at plan b call) (step_at plan (box_plan_of plan b) call x p)
    (step_at plan (box_plan_of plan b) call y q)
call_alike plan b call x y p q e same =
    subst (λ (z : BoxState). AreAlike (kind_of (decided plan b call x)) (way_at plan b call)
    (step_at plan (box_plan_of plan b) call x p) (step_at plan (box_plan_of plan b) call z q)) e
    (alike (decided plan b call x) (way_at plan b call) p q same)

-- ---- along equal pairs

word_along : (kind : Kind) (way : Way) (p q p' q' : PairState) → p' ≡ p → q' ≡ q → SameWord kind way p q
    → SameWord kind way p' q'
word_along kind way p q p' q' e f same =
    subst (λ (r : PairState). SameWord kind way p' r) (sym f)
    (subst (λ (r : PairState). SameWord kind way r q) (sym e) same)

-- ---- in the line

-- a call comes out alike in states with the same box and the same word
pub ends_alike : (plan : PlanFields) (state other : LineState) (b : ℕ) (call : Call) → IsPlan plan
    → IsStateOf plan state → IsStateOf plan other → KnowsCall plan b call → HaveSameFootprint plan b call state other
    → EndsAlike plan b call state other
unfolding step
ends_alike plan state other b call is h k known same =
    let here = has_places plan state b call is h known in
    let there = has_places plan other b call is k known in
    let told =
    call_alike plan b call (box_at state b) (box_at other b) (pair_at state (pair_of plan b call))
    (pair_at other (pair_of plan b call)) same.here same.word in
    record {
      reply = told.reply;
      here = get_or-set_same state.boxes b _ no_state here.box ∙ told.here
          ∙ sym (get_or-set_same other.boxes b _ no_state there.box);
      word = word_along (kind_at plan state b call) (way_at plan b call) _ _ _ _
          (get_or-set_same state.pairs (pair_of plan b call) _ opening_pair here.pair)
          (get_or-set_same other.pairs (pair_of plan b call) _ opening_pair there.pair) told.word;
    }

-- a call leaves every other box and every other word as they were
pub keeps_others : (plan : PlanFields) (state : LineState) (b : ℕ) (call : Call) → IsPlan plan → IsStateOf plan state
    → KnowsCall plan b call → KeepsOthers plan b call state
unfolding step
keeps_others plan state b call is h known =
    let here = has_places plan state b call is h known in
    record {
      boxes = λ other differ. get_or-set_other state.boxes b other _ no_state differ;
      pairs = λ other differ. get_or-set_other state.pairs (pair_of plan b call) other _ opening_pair differ;
      words = subst
          (λ (r : PairState). SameOthers (kind_at plan state b call) (way_at plan b call)
          (pair_at state (pair_of plan b call)) r)
          (sym (get_or-set_same state.pairs (pair_of plan b call) _ opening_pair here.pair))
          (others_stay (decision_at plan state b call) (way_at plan b call) (pair_at state (pair_of plan b call)));
    }
