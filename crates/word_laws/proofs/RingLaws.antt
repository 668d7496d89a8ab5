-- What is heard on a bell is what was rung on it, in order.
use Rattle.std.proofs.Common.{◌≡◌, ℕ, ◌+◌, ◌&&◌, ◌⊎◌, Bool, true, false, cond, IsTrue, List, [], ◌∷◌, ◌++◌, Option}
use Rattle.std.proofs.Common.{Some, None, length, refl, sym, ap, subst, ◌∙◌, arith, inl, inr, eqb}
use Rattle.std.specs.Option.{option_to_list}
use Rattle.std.proofs.lemmas.Bool.Decides.{eqb_tells}
use Rattle.std.proofs.lemmas.List.{append_assoc, append-nil, length-append, get_or-set_same, get_or-set_other}
use Rattle.block_words.specs.Ways.{opposite}
use Rattle.block_words.specs.declared.Way.{Way}
use Rattle.block_words.specs.declared.Way.TheVariants.{Up, Down}
use Rattle.line_plan.specs.Frames.{BoxFields, same_way}
use Rattle.line_plan.specs.Plans.{IsPlan, PlanFields}
use Rattle.line_law.specs.declared.call.Act.{Act}
use Rattle.line_law.specs.declared.call.Act.TheVariants.{Ring, Hear, AwaitBell}
use Rattle.line_law.specs.declared.call.Entry.{Entry}
use Rattle.line_law.specs.declared.call.Reply.{Reply}
use Rattle.line_law.specs.declared.call.Reply.TheVariants.{Heard, BellNotYet}
use Rattle.line_law.specs.declared.link.Link.{Link}
use Rattle.line_law.specs.declared.state.Bell.{Bell}
use Rattle.line_law.specs.declared.state.BoxState.{BoxState}
use Rattle.line_law.specs.declared.state.PairState.{PairState}
use Rattle.line_law.specs.declared.ways.ByWay.{ByWay}
use Rattle.line_law.specs.Links.{way_of}
use Rattle.line_law.specs.Ways.{of_way}
use Rattle.line_law.specs.Bells.{rung, heard, awaited, ring, hear, await_bell, silent}
use Rattle.line_law.specs.Decisions.{Decision, Told, OnBell, on_pair}
use Rattle.line_law.specs.States.{LineState, IsStateOf, box_at, opening_pair, opening_state, pair_at}
use Rattle.line_law.specs.Law.{step, step_at, pair_of, box_plan_of, decide, at_moment, link_of}
use Rattle.line_law.specs.History.{IsLegal, IsLegalFrom, after_entry, state_after, state_of}
use Rattle.line_law.specs.Outcomes.{Outcome, Rings, Hears, AwaitsBell}
use Rattle.word_laws.specs.Rings.{bell_at, bell_link, code_heard, code_rung, count_told, heard_on, is_bell, is_on_bell}
use Rattle.word_laws.specs.Rings.{rung_on, unheard_on}
use Rattle.line_law.proofs.Lines.{has_places}
use Rattle.line_law.proofs.Histories.{history_states, legal_first, legal_then, state_both}
use Rattle.line_law.proofs.Keeping.{shape_stays}
use Rattle.line_law.proofs.Opens.{opening_pair_at, opening_shape}
use Rattle.line_law.proofs.Outcomes.{outcome_of}

-- ---- one call on one bell

-- these codes were rung on a bell and those heard: what stood unheard and was rung is what was heard and stands unheard
record Passes (old : Bell) (rings hears : List ℕ) (new : Bell) : Type 0 where
  codes : option_to_list old.unheard ++ rings ≡ hears ++ option_to_list new.unheard
  count : new.count ≡ old.count + length rings

-- a call on a bell, with its reply
record PassesTold (act : Act) (old : Bell) (outcome : Told Bell) : Type 0 where
  bell : Passes old (code_rung act outcome.reply) (code_heard outcome.reply) outcome.word
  told : count_told outcome.reply ≡ outcome.word.count

ring_passes : (here : BoxState) (side : Way) (code count : ℕ) (unheard : Option ℕ)
    → PassesTold (Ring side code) (record { count = count; unheard = unheard }) (rung here side code count unheard)
ring_passes here side code count None = record { bell = record { codes = refl; count = refl }; told = refl }
ring_passes here side code count (Some held) =
    record { bell = record { codes = refl; count = omega arith }; told = refl }

hear_passes : (here : BoxState) (side : Way) (count : ℕ) (unheard : Option ℕ)
    → PassesTold (Hear side) (record { count = count; unheard = unheard }) (heard here count unheard)
hear_passes here side count None = record { bell = record { codes = refl; count = omega arith }; told = refl }
hear_passes here side count (Some held) = record { bell = record { codes = refl; count = omega arith }; told = refl }

await_passes : (here : BoxState) (side : Way) (code count : ℕ) (unheard : Option ℕ)
    → PassesTold (AwaitBell side code) (record { count = count; unheard = unheard }) (awaited here code count unheard)
await_passes here side code count None = record { bell = record { codes = refl; count = omega arith }; told = refl }
await_passes here side code count (Some held) = go (eqb held code) where
  outcome : Bool → Told Bell
  outcome b =
      cond b (record { reply = Heard held count; here = here; word = silent count })
      (record {
        reply = BellNotYet (Some held) count;
        here = here;
        word =
            record { count = count; unheard = Some held };
      })

  go : (b : Bool) → PassesTold (AwaitBell side code) (record { count = count; unheard = Some held }) (outcome b)
  go true = record { bell = record { codes = refl; count = omega arith }; told = refl }
  go false = record { bell = record { codes = refl; count = omega arith }; told = refl }

-- ---- one call in its pair

-- nothing was rung and nothing heard
nothing : (bell : Bell) → Passes bell [] [] bell
nothing bell = record { codes = append-nil (option_to_list bell.unheard); count = omega arith }

-- what a call rings and hears on the bell of a way
record PassesIn (act : Act) (mine : Bool) (old new : Bell) (reply : Reply) : Type 0 where
  bell : Passes old (cond mine (code_rung act reply) []) (cond mine (code_heard reply) []) new
  told : mine ≡ true → count_told reply ≡ new.count

on_bell_passes : (act : Act) (side way : Way) (f : Bell → Told Bell) (pair : PairState)
    → ((bell : Bell) → PassesTold act bell (f bell))
    → PassesIn act (same_way side way) (of_way pair.bells way) (of_way (on_pair side (OnBell f) pair).word.bells way)
    (on_pair side (OnBell f) pair).reply
on_bell_passes act Up Up f pair h = record { bell = (h pair.bells.up).bell; told = λ _. (h pair.bells.up).told }
on_bell_passes act Up Down f pair h = record { bell = nothing pair.bells.down; told = λ e. absurd cc }
on_bell_passes act Down Up f pair h = record { bell = nothing pair.bells.up; told = λ e. absurd cc }
on_bell_passes act Down Down f pair h = record { bell = (h pair.bells.down).bell; told = λ _. (h pair.bells.down).told }

-- what a call on a bell rings and hears there
act_passes : (plan : PlanFields) (bp : BoxFields) (act : Act) (here : BoxState) (pair : PairState) (way : Way)
    → bell_link act ≡ Some (link_of bp act)
    → PassesIn act (same_way (way_of (link_of bp act)) way) (of_way pair.bells way)
    (of_way (on_pair (way_of (link_of bp act)) (decide plan bp act here) pair).word.bells way)
    (on_pair (way_of (link_of bp act)) (decide plan bp act here) pair).reply
act_passes plan bp (Ring side code) here pair way e =
    on_bell_passes (Ring side code) side way (ring here side code) pair
    (λ bell. ring_passes here side code bell.count bell.unheard)
act_passes plan bp (Hear side) here pair way e =
    on_bell_passes (Hear side) (opposite side) way (hear here) pair
    (λ bell. hear_passes here side bell.count bell.unheard)
act_passes plan bp (AwaitBell side code) here pair way e =
    on_bell_passes (AwaitBell side code) (opposite side) way (await_bell here code) pair
    (λ bell. await_passes here side code bell.count bell.unheard)
act_passes plan bp act here pair way e = absurd cc

-- a call is on no bell, or on that of its line
bell_is : (bp : BoxFields) (act : Act) → (bell_link act ≡ None) ⊎ (bell_link act ≡ Some (link_of bp act))
bell_is bp (Ring side code) = inr refl
bell_is bp (Hear side) = inr refl
bell_is bp (AwaitBell side code) = inr refl
bell_is bp act = inl refl

-- a call that is on no bell leaves both
no_bell : (plan : PlanFields) (bp : BoxFields) (here : BoxState) (pair : PairState) (v : Way) (act : Act) (d : Decision)
    → Outcome plan bp here act d → bell_link act ≡ None → (on_pair v d pair).word.bells ≡ pair.bells
no_bell plan bp here pair v act d (Rings side code) e = absurd cc
no_bell plan bp here pair v act d (Hears side) e = absurd cc
no_bell plan bp here pair v act d (AwaitsBell side code) e = absurd cc
no_bell plan bp here pair v act d out e = refl

-- ---- one call in the line

-- nothing on a bell that stays
nothing_in : (act : Act) (old new : Bell) (reply : Reply) → new ≡ old → PassesIn act false old new reply
nothing_in act old new reply e =
    subst (λ (x : Bell). PassesIn act false old x reply) (sym e) (record { bell = nothing old; told = λ f. absurd cc })

call_passes : (plan : PlanFields) (state : LineState) (p : ℕ) (way : Way) (e : Entry) (more : List Entry) → IsPlan plan
    → IsStateOf plan state → IsLegalFrom plan state (e ∷ more)
    → PassesIn e.call.act (is_on_bell p way e) (bell_at state p way) (bell_at (after_entry plan state e) p way) e.reply
unfolding step
call_passes plan state p way e more is shape legal =
    let places = has_places plan state e.box_no e.call is shape legal.0.known in
    let bp = box_plan_of plan e.box_no in
    let link = link_of bp e.call.act in
    let q = pair_of plan e.box_no e.call in
    let here = at_moment (box_at state e.box_no) e.call.moment in
    let told : Told PairState = step_at plan bp e.call (box_at state e.box_no) (pair_at state q) in
    let F : Option Link → Type 0 =
    λ o. PassesIn e.call.act (is_bell p way e.box_no o) (bell_at state p way)
    (bell_at (after_entry plan state e) p way) e.reply in
    let written : pair_at (after_entry plan state e) q ≡ told.word =
    get_or-set_same state.pairs q told.word opening_pair places.pair in
    elim (bell_is bp e.call.act) [
      | inl none ↦
          subst F (sym none) (nothing_in e.call.act _ _ e.reply (elim (eqb_tells q p) [
            | inl same ↦
                let there : pair_at (after_entry plan state e) p ≡ told.word =
                subst (λ (r : ℕ). pair_at (after_entry plan state e) r ≡ told.word) same.1 written in
                let kept : told.word.bells ≡ (pair_at state q).bells =
                no_bell plan bp here (pair_at state q) (way_of link) e.call.act _
                (outcome_of plan bp e.call.act here) none in
                ap (λ (x : PairState). of_way x.bells way) there ∙ ap (λ (x : ByWay Bell). of_way x way) kept
                ∙ ap (λ (r : ℕ). bell_at state r way) same.1
            | inr differ ↦
                ap (λ (x : PairState). of_way x.bells way)
                (get_or-set_other state.pairs q p told.word opening_pair (λ f. differ.1 (sym f)))
          ]))
      | inr some ↦
          let passes = act_passes plan bp e.call.act here (pair_at state q) way some in
          let H : Bool → Type 0 =
          λ t. PassesIn e.call.act (t && same_way (way_of link) way) (bell_at state p way)
          (bell_at (after_entry plan state e) p way) e.reply in
          subst F (sym some) (elim (eqb_tells q p) [
            | inl same ↦
                let there : pair_at (after_entry plan state e) p ≡ told.word =
                subst (λ (r : ℕ). pair_at (after_entry plan state e) r ≡ told.word) same.1 written in
                let here_q : PassesIn e.call.act (same_way (way_of link) way) (bell_at state p way)
                (of_way told.word.bells way) told.reply =
                subst (λ (r : ℕ). PassesIn e.call.act (same_way (way_of link) way) (bell_at state r way)
                (of_way told.word.bells way) told.reply) same.1 passes in
                let after : PassesIn e.call.act (same_way (way_of link) way) (bell_at state p way)
                (bell_at (after_entry plan state e) p way) told.reply =
                subst (λ (x : PairState). PassesIn e.call.act (same_way (way_of link) way) (bell_at state p way)
                (of_way x.bells way) told.reply) (sym there) here_q in
                subst H (sym same.0)
                (subst (λ (r : Reply). PassesIn e.call.act (same_way (way_of link) way) (bell_at state p way)
                (bell_at (after_entry plan state e) p way) r) (sym legal.1) after)
            | inr differ ↦
                subst H (sym differ.0)
                (nothing_in e.call.act _ _ e.reply
                (ap (λ (x : PairState). of_way x.bells way)
                (get_or-set_other state.pairs q p told.word opening_pair (λ f. differ.1 (sym f)))))
          ])
    ]

-- ---- a history

abbrev Together : LineState → ℕ → Way → List Entry → LineState → Type 0
Together state p way es after =
    Passes (bell_at state p way) (rung_on p way es) (heard_on p way es) (bell_at after p way)

then_passes : (a b c : Bell) (rings hears more others : List ℕ) → Passes a rings hears b → Passes b more others c
    → Passes a (rings ++ more) (hears ++ others) c
then_passes a b c rings hears more others h k =
    record {
      codes =
          sym (append_assoc (option_to_list a.unheard) rings more)
          ∙ ap (λ (l : List ℕ). l ++ more) h.codes
          ∙ append_assoc hears (option_to_list b.unheard) more
          ∙ ap (λ (l : List ℕ). hears ++ l) k.codes
          ∙ sym (append_assoc hears others (option_to_list c.unheard));
      count = omega (arith, h.count, k.count, length-append rings more);
    }

history_passes : (plan : PlanFields) (state : LineState) (p : ℕ) (way : Way) (es : List Entry) → IsPlan plan
    → IsStateOf plan state → IsLegalFrom plan state es → Together state p way es (state_after plan state es)
history_passes plan state p way [] is shape legal = nothing (bell_at state p way)
history_passes plan state p way (e ∷ es) is shape legal =
    then_passes _ (bell_at (after_entry plan state e) p way) _ _ _ _ _
    (call_passes plan state p way e es is shape legal).bell
    (history_passes plan (after_entry plan state e) p way es is (shape_stays plan state e.box_no e.call shape) legal.2)

-- ---- from the opening on

silent_way : (pair : PairState) (way : Way) → pair ≡ opening_pair → of_way pair.bells way ≡ silent 0
silent_way pair Up e = ap (λ (p : PairState). p.bells.up) e
silent_way pair Down e = ap (λ (p : PairState). p.bells.down) e

opens_silent : (plan : PlanFields) (p : ℕ) (way : Way) → bell_at (opening_state plan) p way ≡ silent 0
opens_silent plan p way = silent_way _ way (opening_pair_at plan p)

all_passes : (plan : PlanFields) (es : List Entry) (p : ℕ) (way : Way) → IsPlan plan → IsLegal plan es
    → Passes (silent 0) (rung_on p way es) (heard_on p way es) (bell_at (state_of plan es) p way)
all_passes plan es p way is h =
    subst (λ (bell : Bell). Passes bell (rung_on p way es) (heard_on p way es) (bell_at (state_of plan es) p way))
    (opens_silent plan p way) (history_passes plan (opening_state plan) p way es is (opening_shape plan) h)

-- the codes rung on a bell are those that were heard, and then the one that stands unheard
pub all_heard : (plan : PlanFields) (es : List Entry) (p : ℕ) (way : Way) → IsPlan plan → IsLegal plan es
    → rung_on p way es ≡ heard_on p way es ++ unheard_on (state_of plan es) p way
all_heard plan es p way is h = (all_passes plan es p way is h).codes

-- a bell has counted the codes that were rung on it
pub all_counted : (plan : PlanFields) (es : List Entry) (p : ℕ) (way : Way) → IsPlan plan → IsLegal plan es
    → (bell_at (state_of plan es) p way).count ≡ length (rung_on p way es)
all_counted plan es p way is h = let n = (all_passes plan es p way is h).count in omega arith

-- a history and one entry more
with_one : (plan : PlanFields) (es more : List Entry) (e : Entry) → IsLegal plan (es ++ e ∷ more)
    → IsLegal plan (es ++ e ∷ [])
with_one plan es more e h =
    legal_first plan (opening_state plan) (es ++ e ∷ []) more
    (subst (λ (l : List Entry). IsLegal plan l) (sym (append_assoc es (e ∷ []) more)) h)

-- a call on a bell is told how many codes were rung on it so far
pub count_is_told : (plan : PlanFields) (es more : List Entry) (e : Entry) (p : ℕ) (way : Way) → IsPlan plan
    → IsLegal plan (es ++ e ∷ more) → IsTrue (is_on_bell p way e)
    → count_told e.reply ≡ length (rung_on p way (es ++ e ∷ []))
count_is_told plan es more e p way is h mine =
    let rest = legal_then plan (opening_state plan) es (e ∷ more) h in
    let here = (call_passes plan (state_of plan es) p way e more is (history_states plan es) rest).told mine in
    here
    ∙ ap (λ (s : LineState). (bell_at s p way).count) (sym (state_both plan (opening_state plan) es (e ∷ [])))
    ∙ all_counted plan (es ++ e ∷ []) p way is (with_one plan es more e h)
