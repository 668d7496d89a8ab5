-- What a decided call makes of a man's view, his desk and his part of the history.
use Rattle.std.proofs.Common.{◌≡◌, ℕ, ◌+◌, ◌<◌, true, List, [], ◌∷◌, ◌++◌, length}
use Rattle.std.proofs.Common.{IsTrue, sym, refl, ap, ◌∙◌, subst, arith, append_assoc}
use Rattle.std.proofs.lemmas.Bool.Decides.{nat_tests}
use Rattle.std.proofs.lemmas.List.{get_or-set_same}
use Rattle.std.specs.Prelude.{nat_le}
use Rattle.block_words.specs.declared.Way.{Way}
use Rattle.block_words.specs.declared.WordOp.TheVariants as ops
use Rattle.line_plan.specs.Frames.{BoxFields}
use Rattle.line_plan.specs.Plans.{IsPlan, PlanFields}
use Rattle.line_law.specs.declared.call.Act.{Act}
use Rattle.line_law.specs.declared.call.Act.TheVariants as acts
use Rattle.line_law.specs.declared.call.Call.{Call}
use Rattle.line_law.specs.declared.call.Entry.{Entry}
use Rattle.line_law.specs.declared.call.Reply.{Reply}
use Rattle.line_law.specs.declared.state.BoxState.{BoxState}
use Rattle.line_law.specs.declared.state.PairState.{PairState}
use Rattle.line_law.specs.Decisions.{Decision, Here, OnBell, OnBlock, OnPlainLine, on_pair}
use Rattle.line_law.specs.History.{IsLegal, entry_of, part_of, state_of}
use Rattle.line_law.specs.Known.{KnowsCall, is_code_no, knows_act, knows_side}
use Rattle.line_law.specs.Law.{at_moment, box_plan_of, decide, link_of, pair_of, step}
use Rattle.line_law.specs.Links.{way_of}
use Rattle.line_law.specs.Serial.{is_not_yet}
use Rattle.line_law.specs.States.{LineState, box_at, no_state, pair_at}
use Rattle.line_law.proofs.Found.{both}
use Rattle.line_law.proofs.Histories.{history_states, state_grows}
use Rattle.line_law.proofs.Left.{moment_here}
use Rattle.line_law.proofs.Outcomes.{outcome_of}
use Rattle.line_law.proofs.Sides.{known_parts}
use Rattle.word_laws.specs.Footprint.{Kind, Tally, BellWord, BlockWord, PlainLineWord, kind_of}
use Rattle.word_laws.specs.Operations.{IsOnWord}
use Rattle.word_laws.specs.WordNumbers.{Agrees, NumberAgrees, Word, number_after, number_at, word_named, word_of}
use Rattle.word_laws.proofs.Agreements.{met_agrees as pair_agrees}
use Rattle.word_laws.proofs.TellsKind.{decision_tells, kind_is_told}
use Rattle.box_desk.specs.declared.ask.Step.{Step}
use Rattle.box_desk.specs.declared.ask.Step.TheVariants.{Local, NeedsWord}
use Rattle.box_desk.specs.declared.ask.WordAsk.{WordAsk}
use Rattle.box_desk.specs.Desks.{Answers, DeskFields, IsDeskOf, WordMeets, moved_to}
use Rattle.word_laws.specs.Operations.{met_by}
use Rattle.box_desk.specs.Steps.{Finishes, IsTold, ask_of, awaits_of}
use Rattle.instrument_rule.specs.declared.view.View.{View}
use Rattle.instrument_rule.specs.Calls.{MayStep, Sits, here_at}
use Rattle.instrument_rule.specs.Told.{Tells}
use Rattle.instrument_rule.specs.Views.{caller_of}
use Rattle.instrument_rule.proofs.Doing.{caller_held}
use Rattle.instrument_rule.proofs.OpWords.{first_word}
use Rattle.instrument_rule.proofs.Parts.{part_grows}
use Rattle.signalman_seats.specs.Asking.{AsksAt, Decided, look_word}
use Rattle.signalman_seats.specs.Looks.{InVain}
use Rattle.signalman_seats.specs.Men.{Answered, AtOneStep, IsAtDesk, Performed, answered}
use Rattle.signalman_seats.proofs.Looking.{decided, met_here, not_yet}
use Rattle.signalman_seats.proofs.NotYet.{HasCode, not_yet_missed}

-- ---- what the desk answers

-- the desk of box b is that of the same box after a call
desk_stays : (plan : PlanFields) (b : ℕ) (old new : DeskFields) (here : BoxState) (calls : ℕ)
    → new ≡ record old { here = here; calls = calls } → IsDeskOf plan b old → IsDeskOf plan b new
desk_stays plan b old new here calls e is = subst (λ (d : DeskFields). IsDeskOf plan b d) (sym e)
    (record {
      is_plan = is.is_plan;
      on_line = is.on_line;
      box_plan = is.box_plan;
      kept = record
          { places_are = is.kept.places_are; delay_is = is.kept.delay_is };
    })

-- a call was decided at the desk alone, with this reply
pub record ToldHere (d : Decision) (old : DeskFields) (reply : Reply) (new : DeskFields) : Type 0 where
  pub tally : kind_of d ≡ Tally
  pub new_is : new ≡ record old { here = new.here; calls = old.calls + 1 }
  pub told : (way : Way) (pair : PairState) → IsTold PairState (on_pair way d pair) reply new.here

same_reply : (r reply : Reply) → Local reply ≡ Local r → r ≡ reply
same_reply r reply e = cc

pub told_here : (d : Decision) (ask : WordAsk) (old : DeskFields) (reply : Reply) (new : DeskFields)
    → Answers d ask old (Local reply) new → ToldHere d old reply new
told_here (Here r after) ask old reply new h = record {
  tally = refl;
  new_is = h.1 ∙ ap (λ (x : BoxState). record old { here = x; calls = old.calls + 1 })
      (sym (ap (λ (d : DeskFields). d.here) h.1));
  told = λ way pair. record { reply_is = same_reply r reply h.0; here_is = sym (ap (λ (d : DeskFields). d.here) h.1) };
}
told_here (OnBell act) ask old reply new h = let e : Local reply ≡ NeedsWord ask = h.0 in absurd cc
told_here (OnBlock act) ask old reply new h = let e : Local reply ≡ NeedsWord ask = h.0 in absurd cc
told_here (OnPlainLine act) ask old reply new h = let e : Local reply ≡ NeedsWord ask = h.0 in absurd cc

-- a call asks for its word, and the desk is as it was
pub record AsksWord (d : Decision) (ask : WordAsk) (old : DeskFields) (told : WordAsk) (new : DeskFields) : Type 0 where
  pub on_word : IsOnWord (kind_of d)
  pub ask_is : told ≡ ask
  pub new_is : new ≡ old

same_ask : (a b : WordAsk) → NeedsWord a ≡ NeedsWord b → a ≡ b
same_ask a b e = cc

pub asks_word : (d : Decision) (ask : WordAsk) (old : DeskFields) (told : WordAsk) (new : DeskFields)
    → Answers d ask old (NeedsWord told) new → AsksWord d ask old told new
asks_word (Here r after) ask old told new h = let e : NeedsWord told ≡ Local r = h.0 in absurd cc
asks_word (OnBell act) ask old told new h = record { on_word = tt; ask_is = same_ask told ask h.0; new_is = h.1 }
asks_word (OnBlock act) ask old told new h = record { on_word = tt; ask_is = same_ask told ask h.0; new_is = h.1 }
asks_word (OnPlainLine act) ask old told new h = record { on_word = tt; ask_is = same_ask told ask h.0; new_is = h.1 }

-- the desk as a post has seen its box, at the moment of a call
here_is : (plan : PlanFields) (b : ℕ) (seen : List Entry) (desk : DeskFields) (call : Call) → IsAtDesk plan b seen desk
    → at_moment desk.here call.moment ≡ here_at plan seen b call
here_is plan b seen desk call at = ap (λ (x : BoxState). at_moment x call.moment) at.here

-- what the first step answers, in the box as the post has seen it
pub prepared : (plan : PlanFields) (b : ℕ) (seen : List Entry) (old new : DeskFields) (call : Call) (step : Step)
    → IsAtDesk plan b seen old
    → Answers (decide plan (box_plan_of plan b) call.act (at_moment old.here call.moment))
    (ask_of plan (box_plan_of plan b) call (at_moment old.here call.moment)) (moved_to old call.moment) step new
    → Answers (decide plan (box_plan_of plan b) call.act (here_at plan seen b call))
    (ask_of plan (box_plan_of plan b) call (at_moment old.here call.moment)) (moved_to old call.moment) step new
prepared plan b seen old new call step at h = subst (λ (x : BoxState). Answers
    (decide plan (box_plan_of plan b) call.act x) (ask_of plan (box_plan_of plan b) call
    (at_moment old.here call.moment)) (moved_to old call.moment) step new) (here_is plan b seen old call at) h

-- a desk that asks for a word asks it of the post
pub asks_of_post : (plan : PlanFields) (v : View) (old new : DeskFields) (call : Call) (told : WordAsk)
    → KnowsCall plan (caller_of v.posts) call → IsAtDesk plan (caller_of v.posts) v.seen old
    → AsksWord (decide plan (box_plan_of plan (caller_of v.posts)) call.act (here_at plan v.seen (caller_of v.posts)
    call)) (ask_of plan (box_plan_of plan (caller_of v.posts)) call (at_moment old.here call.moment))
    (moved_to old call.moment) told new
    → AsksAt plan v new told
asks_of_post plan v old new call told known at a = subst (λ (d : DeskFields). AsksAt plan v d told) (sym a.new_is)
    (subst (λ (t : WordAsk). AsksAt plan v (moved_to old call.moment) t) (sym a.ask_is) (record {
      asked = record {
        desk_of = record {
          is_plan = at.desk_of.is_plan;
          on_line = at.desk_of.on_line;
          box_plan = at.desk_of.box_plan;
          kept = record { places_are = at.desk_of.kept.places_are; delay_is = at.desk_of.kept.delay_is };
        };
        known = known;
        moment = refl;
        on_word = subst (λ (x : BoxState). IsOnWord (kind_of (decide plan (box_plan_of plan (caller_of v.posts))
            call.act x))) (sym (here_is plan (caller_of v.posts) v.seen old call at)) a.on_word;
        is_ask = refl;
      };
      here = here_is plan (caller_of v.posts) v.seen old call at;
    }))

-- ---- what the law makes of the call

-- the law's reply, and the box after the call
pub record Stepped (plan : PlanFields) (log : List Entry) (b : ℕ) (call : Call) (reply : Reply) (here : BoxState) : Type
    0 where
  pub reply_is : (step plan (state_of plan log) b call).reply ≡ reply
  pub here_is : box_at (step plan (state_of plan log) b call).after b ≡ here
  pub moment : here.moment ≡ call.moment

abbrev pub pair_met : PlanFields → List Entry → ℕ → Call → PairState
pair_met plan log b call = pair_at (state_of plan log) (pair_of plan b call)

pub stepped : (plan : PlanFields) (log : List Entry) (b : ℕ) (call : Call) (reply : Reply) (here : BoxState)
    → b < length plan.boxes
    → IsTold PairState (on_pair (way_of (link_of (box_plan_of plan b) call.act))
    (decide plan (box_plan_of plan b) call.act (here_at plan log b call)) (pair_met plan log b call)) reply here
    → Stepped plan log b call reply here
unfolding step
stepped plan log b call reply here on_line told =
    let within : b < length (state_of plan log).boxes = (let e = (history_states plan log).boxes in omega arith) in
    let after : box_at (step plan (state_of plan log) b call).after b ≡ here = get_or-set_same (state_of plan log).boxes
    b _ no_state within ∙ told.here_is in
    record {
      reply_is = told.reply_is;
      here_is = after;
      moment = sym (ap (λ (x : BoxState). x.moment) after)
          ∙ moment_here plan (state_of plan log) b call within;
    }

-- the number of a word on which a call is decided is that of its pair
number_is : (plan : PlanFields) (log : List Entry) (k : Kind) (b p : ℕ) (way : Way) → IsOnWord k
    → number_after plan log (word_named k b p way) ≡ number_at k way (pair_at (state_of plan log) p)
number_is plan log Tally b p way on = absurd on
number_is plan log BellWord b p way on = refl
number_is plan log BlockWord b p way on = refl
number_is plan log PlainLineWord b p way on = refl

-- an await is decided on its word
await_on_word : (plan : PlanFields) (box_plan : BoxFields) (act : Act) (here : BoxState) → awaits_of act ≡ true
    → IsOnWord (kind_of (decide plan box_plan act here))
await_on_word plan box_plan (acts.AwaitBell side code) here e = tt
await_on_word plan box_plan (acts.AwaitBlock way position) here e = tt
await_on_word plan box_plan (acts.AwaitTrain way) here e = tt
await_on_word plan box_plan act here e = absurd cc

-- so an await is never decided at the desk alone
pub never_here : (plan : PlanFields) (box_plan : BoxFields) (act : Act) (here : BoxState)
    → kind_of (decide plan box_plan act here) ≡ Tally → awaits_of act ≡ true → ⊥
never_here plan box_plan act here tally e = subst IsOnWord tally (await_on_word plan box_plan act here e)

-- a code that a known call looks for is no 0
code_some : (plan : PlanFields) (code : ℕ) → IsTrue (is_code_no plan code) → 0 < code
code_some plan code h = let p = both (nat_le 1 code) (nat_le code (length plan.codes)) h in grind (arith, nat_tests)

has_code : (plan : PlanFields) (b : ℕ) (act : Act) → IsTrue (knows_act plan b act) → HasCode act
has_code plan b (acts.AwaitBell side code) h = code_some plan code (both (knows_side plan b side) (is_code_no plan code)
    h).1
has_code plan b act h = tt

-- ---- a call that was decided

module _ (plan : PlanFields) (call : Call) (looks : ℕ) (v : View) (n : ℕ) (w : View) (is : IsPlan plan)
    (may : MayStep plan call v) (done : Decided plan call looks v n w) where
  -- its box is as the post had seen it
  pub own : here_at plan done.log (caller_of v.posts) call ≡ here_at plan v.seen (caller_of v.posts) call
  own = ap (λ (x : BoxState). at_moment x call.moment) (met_here plan done.log _ v n is may.holds done.met)

  -- its word read the number of its pair
  pub number_met : IsOnWord (kind_of (decide plan (box_plan_of plan (caller_of v.posts)) call.act
      (here_at plan done.log (caller_of v.posts) call)))
      → number_at (kind_of (decide plan (box_plan_of plan (caller_of v.posts)) call.act
      (here_at plan done.log (caller_of v.posts) call))) (way_of (link_of (box_plan_of plan (caller_of v.posts))
      call.act)) (pair_met plan done.log (caller_of v.posts) call) ≡ n
  number_met on = sym (done.met.found ∙ (ap (number_after plan done.log) done.its_word
      ∙ (ap (λ (k : Kind). number_after plan done.log (word_named k (caller_of v.posts)
      (pair_of plan (caller_of v.posts) call) (way_of (link_of (box_plan_of plan (caller_of v.posts)) call.act))))
      (kind_is_told plan (state_of plan done.log) (caller_of v.posts) call)
      ∙ number_is plan done.log (kind_of (decide plan (box_plan_of plan (caller_of v.posts)) call.act
      (here_at plan done.log (caller_of v.posts) call))) (caller_of v.posts) (pair_of plan (caller_of v.posts) call)
      (way_of (link_of (box_plan_of plan (caller_of v.posts)) call.act)) on)))

  pub pair_fits : Agrees (kind_of (decide plan (box_plan_of plan (caller_of v.posts)) call.act
      (here_at plan done.log (caller_of v.posts) call))) (link_of (box_plan_of plan (caller_of v.posts)) call.act)
      (here_at plan done.log (caller_of v.posts) call) (pair_met plan done.log (caller_of v.posts) call)
  pair_fits = pair_agrees plan done.log (caller_of v.posts) call is done.met.legal done.met.few may.call_may.known

  -- what the desk makes of the word is what the law makes of the call
  pub finished : (reply : Reply) (here : BoxState) → IsOnWord
      (kind_of (decide plan (box_plan_of plan (caller_of v.posts)) call.act (here_at plan v.seen (caller_of v.posts)
      call)))
      → Finishes (decide plan (box_plan_of plan (caller_of v.posts)) call.act (here_at plan v.seen (caller_of v.posts)
      call)) (link_of (box_plan_of plan (caller_of v.posts)) call.act) (here_at plan v.seen (caller_of v.posts)
      call) n reply here
      → IsTold PairState (on_pair (way_of (link_of (box_plan_of plan (caller_of v.posts)) call.act))
      (decide plan (box_plan_of plan (caller_of v.posts)) call.act (here_at plan done.log (caller_of v.posts) call))
      (pair_met plan done.log (caller_of v.posts) call)) reply here
  finished reply here on finishes =
      let P : BoxState → Type 0 = λ x. IsOnWord (kind_of (decide plan (box_plan_of plan (caller_of v.posts)) call.act
      x)) → Finishes (decide plan (box_plan_of plan (caller_of v.posts)) call.act x)
      (link_of (box_plan_of plan (caller_of v.posts)) call.act) x n reply here
      → IsTold PairState (on_pair (way_of (link_of (box_plan_of plan (caller_of v.posts)) call.act))
      (decide plan (box_plan_of plan (caller_of v.posts)) call.act (here_at plan done.log (caller_of v.posts) call))
      (pair_met plan done.log (caller_of v.posts) call)) reply here in
      let there : P (here_at plan done.log (caller_of v.posts) call) = λ there_on f. f
      (pair_met plan done.log (caller_of v.posts) call) pair_fits (number_met there_on) in
      subst P own there on finishes

  -- its word agrees with the box as the post had seen it
  pub word_agrees : IsOnWord (kind_of (decide plan (box_plan_of plan (caller_of v.posts)) call.act
      (here_at plan v.seen (caller_of v.posts) call)))
      → NumberAgrees (kind_of (decide plan (box_plan_of plan (caller_of v.posts)) call.act
      (here_at plan v.seen (caller_of v.posts) call))) (link_of (box_plan_of plan (caller_of v.posts)) call.act)
      (here_at plan v.seen (caller_of v.posts) call) n
  word_agrees on =
      let P : BoxState → Type 0 = λ x. IsOnWord (kind_of (decide plan (box_plan_of plan (caller_of v.posts)) call.act
      x)) → NumberAgrees (kind_of (decide plan (box_plan_of plan (caller_of v.posts)) call.act x))
      (link_of (box_plan_of plan (caller_of v.posts)) call.act) x n in
      let there : P (here_at plan done.log (caller_of v.posts) call) = λ there_on. record
      { pair = pair_met plan done.log (caller_of v.posts) call; agrees = pair_fits; packs = number_met there_on } in
      subst P own there on

  module _ (reply : Reply) (here : BoxState)
      (told : IsTold PairState (on_pair (way_of (link_of (box_plan_of plan (caller_of v.posts)) call.act))
      (decide plan (box_plan_of plan (caller_of v.posts)) call.act (here_at plan done.log (caller_of v.posts) call))
      (pair_met plan done.log (caller_of v.posts) call)) reply here) where
    pub law : Stepped plan done.log (caller_of v.posts) call reply here
    law = stepped plan done.log (caller_of v.posts) call reply here (known_parts plan (caller_of v.posts) call
        may.call_may.known).box told

    seen_is : w.seen ≡ done.log ++ answered (caller_of v.posts) call reply ∷ []
    seen_is = done.now ∙ ap (λ (r : Reply). done.log ++ answered (caller_of v.posts) call r ∷ []) law.reply_is

    -- an await that is told that it wasn't satisfied has taken all its looks, each in vain
    in_vain : is_not_yet reply ≡ true → (done.looked.0 ≡ looks)
        × InVain plan (caller_of v.posts) call (look_word plan v call) looks v.seen w.seen
    in_vain e =
        let box_plan : BoxFields = box_plan_of plan (caller_of v.posts) in
        let there : BoxState = here_at plan done.log (caller_of v.posts) call in
        let missed = not_yet_missed plan (box_plan_of plan (caller_of v.posts)) call.act
        (here_at plan done.log (caller_of v.posts) call) _ (pair_met plan done.log (caller_of v.posts) call)
        (outcome_of plan (box_plan_of plan (caller_of v.posts)) call.act (here_at plan done.log (caller_of v.posts)
        call)) (decision_tells plan (box_plan_of plan (caller_of v.posts)) call.act
        (here_at plan done.log (caller_of v.posts) call))
        (has_code plan (caller_of v.posts) call.act (known_parts plan (caller_of v.posts) call may.call_may.known).act)
        pair_fits (ap (λ (r : Reply). is_not_yet r) told.reply_is ∙ e) in
        let number = number_met (await_on_word plan box_plan call.act there missed.awaits) in
        done.looked.3 missed.awaits ((λ i. met_by (box_plan_of plan (caller_of v.posts)) call.act (sym own i)
        (sym number i)) ∙ missed.missed)

    -- the word at which it looked is that of its entry
    look_word_is : look_word plan v call ≡ word_of plan (answered (caller_of v.posts) call reply)
    look_word_is =
        let b : ℕ = caller_of v.posts in
        let box_plan : BoxFields = box_plan_of plan b in
        let named : Kind → Word = λ k. word_named k b (pair_of plan b call) (way_of (link_of box_plan call.act)) in
        first_word plan box_plan b call.act (here_at plan v.seen b call) _
        (outcome_of plan box_plan call.act (here_at plan v.seen b call))
        ∙ (ap (λ (x : BoxState). named (kind_of (decide plan box_plan call.act x))) (sym own)
        ∙ (ap named (sym (kind_is_told plan (state_of plan done.log) b call))
        ∙ ap (λ (r : Reply). word_of plan (answered b call r)) law.reply_is))

    at_one_step : AtOneStep plan (caller_of v.posts) call reply v w
    at_one_step = record {
      log = done.log;
      op = done.op;
      read = n;
      met = done.met;
      its_word = done.its_word
          ∙ ap (λ (r : Reply). word_of plan (answered (caller_of v.posts) call r)) law.reply_is;
      now = seen_is;
    }

    pub performs : Performed plan (caller_of v.posts) call looks reply v w
    performs = record {
      begins = (
        done.met.seen.begins.0 ++ answered (caller_of v.posts) call reply ∷ [],
        sym (append_assoc v.seen done.met.seen.begins.0 (answered (caller_of v.posts) call reply ∷ []))
            ∙ (ap (λ (es : List Entry). es ++ answered (caller_of v.posts) call reply ∷ []) done.met.seen.begins.1
            ∙ sym seen_is),
      );
      legal = subst (IsLegal plan) (sym done.now) done.legal;
      last = at_one_step;
      grew = ap (part_of (caller_of v.posts)) seen_is ∙ (part_grows (caller_of v.posts) done.log
          (answered (caller_of v.posts) call reply) refl
          ∙ ap (λ (es : List Entry). es ++ answered (caller_of v.posts) call reply ∷ [])
          (done.met.seen.own (caller_of v.posts) (caller_held v.posts may.holds)));
      looked = (done.looked.0, done.looked.1, done.looked.2, λ e. (in_vain e).0);
      glances = done.glances;
      in_vain = λ e. subst (λ (o : Word). InVain plan (caller_of v.posts) call o looks v.seen w.seen) look_word_is
          (in_vain e).1;
    }

    -- the call is answered, at a desk of the box after it
    pub answers : (desk : DeskFields) → IsDeskOf plan (caller_of v.posts) desk → desk.here ≡ here
        → Answered plan call looks reply v w desk
    answers desk of e = record {
      performed = performs;
      same_plan = done.same_plan;
      posts = done.posts;
      olds = done.olds;
      at_desk = record {
        legal = performs.legal;
        desk_of = of;
        here = e ∙ sym (ap (λ (es : List Entry). box_at (state_of plan es) (caller_of v.posts)) done.now
            ∙ (ap (λ (s : LineState). box_at s (caller_of v.posts))
            (state_grows plan done.log (entry_of plan (state_of plan done.log) (caller_of v.posts) call))
            ∙ law.here_is));
      };
      moment = ap (λ (x : BoxState). x.moment) e ∙ law.moment;
    }

-- ---- the two kinds of answers

moved_of : (plan : PlanFields) (b : ℕ) (old : DeskFields) (moment : ℕ) → IsDeskOf plan b old
    → IsDeskOf plan b (moved_to old moment)
moved_of plan b old moment is = record {
  is_plan = is.is_plan;
  on_line = is.on_line;
  box_plan = is.box_plan;
  kept =
      record { places_are = is.kept.places_are; delay_is = is.kept.delay_is };
}

-- a call that the desk answered alone, and that was counted on the tally
pub answered_here : (plan : PlanFields) (call : Call) (looks : ℕ) (v : View) (n : ℕ) (w : View) (old new : DeskFields)
    (step : Step) (reply : Reply) → IsPlan plan → Sits plan v → MayStep plan call v
    → IsAtDesk plan (caller_of v.posts) v.seen old
    → Answers (decide plan (box_plan_of plan (caller_of v.posts)) call.act (at_moment old.here call.moment))
    (ask_of plan (box_plan_of plan (caller_of v.posts)) call (at_moment old.here call.moment))
    (moved_to old call.moment) step new
    → step ≡ Local reply → Tells plan call ops.Local true v n w → Answered plan call looks reply v w new
answered_here plan call looks v n w old new step reply is sits may at says local told =
    let d : Decision = decide plan (box_plan_of plan (caller_of v.posts)) call.act
    (here_at plan v.seen (caller_of v.posts) call) in
    let t = told_here (decide plan (box_plan_of plan (caller_of v.posts)) call.act
    (here_at plan v.seen (caller_of v.posts) call)) (ask_of plan (box_plan_of plan (caller_of v.posts)) call
    (at_moment old.here call.moment)) (moved_to old call.moment) reply new
    (subst (λ (s : Step). Answers (decide plan (box_plan_of plan (caller_of v.posts)) call.act
    (here_at plan v.seen (caller_of v.posts) call)) (ask_of plan (box_plan_of plan (caller_of v.posts)) call
    (at_moment old.here call.moment)) (moved_to old call.moment) s new) local
    (prepared plan (caller_of v.posts) v.seen old new call step at says)) in
    let done : Decided plan call looks v n w = decided plan call ops.Local true v v w 0 n looks (omega arith)
    (λ a miss. absurd (never_here plan (box_plan_of plan (caller_of v.posts)) call.act
    (here_at plan v.seen (caller_of v.posts) call) t.tally a)) may.holds (not_yet plan v sits.1) told refl in
    answers plan call looks v n w is may done reply new.here
    (subst (λ (x : BoxState). IsTold PairState (on_pair (way_of (link_of (box_plan_of plan (caller_of v.posts))
    call.act)) (decide plan (box_plan_of plan (caller_of v.posts)) call.act x)
    (pair_met plan done.log (caller_of v.posts) call)) reply new.here)
    (sym (own plan call looks v n w is may done)) (t.told (way_of (link_of (box_plan_of plan (caller_of v.posts))
    call.act)) (pair_met plan done.log (caller_of v.posts) call)))
    new (desk_stays plan (caller_of v.posts) (moved_to old call.moment) new new.here (old.calls + 1) t.new_is
    (moved_of plan (caller_of v.posts) old call.moment at.desk_of)) refl

-- a call that the desk finishes by its word
module _ (plan : PlanFields) (call : Call) (v : View) (old mid : DeskFields) (step : Step) (ask : WordAsk)
    (is : IsPlan plan) (may : MayStep plan call v) (at : IsAtDesk plan (caller_of v.posts) v.seen old)
    (says : Answers (decide plan (box_plan_of plan (caller_of v.posts)) call.act (at_moment old.here call.moment))
    (ask_of plan (box_plan_of plan (caller_of v.posts)) call (at_moment old.here call.moment))
    (moved_to old call.moment) step mid)
    (needs : step ≡ NeedsWord ask) where
  asks : AsksWord (decide plan (box_plan_of plan (caller_of v.posts)) call.act (here_at plan v.seen (caller_of v.posts)
      call)) (ask_of plan (box_plan_of plan (caller_of v.posts)) call (at_moment old.here call.moment))
      (moved_to old call.moment) ask mid
  asks = asks_word (decide plan (box_plan_of plan (caller_of v.posts)) call.act (here_at plan v.seen (caller_of v.posts)
      call)) (ask_of plan (box_plan_of plan (caller_of v.posts)) call (at_moment old.here call.moment))
      (moved_to old call.moment) ask mid
      (subst (λ (s : Step). Answers (decide plan (box_plan_of plan (caller_of v.posts)) call.act
      (here_at plan v.seen (caller_of v.posts) call)) (ask_of plan (box_plan_of plan (caller_of v.posts)) call
      (at_moment old.here call.moment)) (moved_to old call.moment) s mid) needs
      (prepared plan (caller_of v.posts) v.seen old mid call step at says))

  call_is : ask.call ≡ call
  call_is = ap (λ (a : WordAsk). a.call) asks.ask_is

  pub may_ask : MayStep plan ask.call v
  may_ask = subst (λ (c : Call). MayStep plan c v) (sym call_is) may

  pub asks_so : AsksAt plan v mid ask
  asks_so = asks_of_post plan v old mid call ask may.call_may.known at asks

  pub same_calls : mid.calls ≡ old.calls
  same_calls = ap (λ (d : DeskFields). d.calls) asks.new_is

  pub word_meets : (looks n : ℕ) (w : View) → Decided plan ask.call looks v n w
      → WordMeets plan (caller_of v.posts) mid ask n
  word_meets looks n w done = subst (λ (x : BoxState). NumberAgrees
      (kind_of (decide plan (box_plan_of plan (caller_of v.posts)) ask.call.act x))
      (link_of (box_plan_of plan (caller_of v.posts)) ask.call.act) x n) (sym asks_so.here)
      (word_agrees plan ask.call looks v n w is may_ask done (subst
      (λ (x : BoxState). IsOnWord (kind_of (decide plan (box_plan_of plan (caller_of v.posts)) ask.call.act x)))
      asks_so.here asks_so.asked.on_word))

  pub answered_by_word : (looks n : ℕ) (w : View) (reply : Reply) (new : DeskFields) → Decided plan ask.call looks v n w
      → Finishes (decide plan (box_plan_of plan (caller_of v.posts)) ask.call.act mid.here)
      (link_of (box_plan_of plan (caller_of v.posts)) ask.call.act) mid.here n reply new.here
      → new ≡ record mid { here = new.here; calls = mid.calls + 1 } → Answered plan call looks reply v w new
  answered_by_word looks n w reply new done finishes kept = subst (λ (c : Call). Answered plan c looks reply v w new)
      call_is
      (answers plan ask.call looks v n w is may_ask done reply new.here
      (finished plan ask.call looks v n w is may_ask done reply new.here
      (subst (λ (x : BoxState). IsOnWord (kind_of (decide plan (box_plan_of plan (caller_of v.posts)) ask.call.act
      x))) asks_so.here asks_so.asked.on_word)
      (subst (λ (x : BoxState). Finishes (decide plan (box_plan_of plan (caller_of v.posts)) ask.call.act x)
      (link_of (box_plan_of plan (caller_of v.posts)) ask.call.act) x n reply new.here) asks_so.here finishes))
      new (desk_stays plan (caller_of v.posts) mid new new.here (mid.calls + 1) kept asks_so.asked.desk_of) refl)
