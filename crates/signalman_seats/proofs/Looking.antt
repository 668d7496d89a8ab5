-- What looks at a word tell of the view before, and what may follow them.
use Rattle.std.proofs.Common.{◌≡◌, ◌≢◌, ℕ, ◌+◌, ◌<◌, ◌≤◌, Bool, true, false, inr, List, [], ◌∷◌, ◌++◌, length}
use Rattle.std.proofs.Common.{Option, Some, None, sym, refl, ap, ◌∙◌, subst, arith, append_assoc, append-nil}
use Rattle.std.proofs.Common.{length-append}
use Rattle.std.specs.Prelude.{◌==◌}
use Rattle.std.proofs.lemmas.Bool.Decides.{nat_tests}
use mathlib.Core.List.{IsPrefix}
use Rattle.block_words.specs.Bells.{bell_code}
use Rattle.block_words.specs.declared.Way.{Way}
use Rattle.block_words.specs.declared.WordOp.{WordOp}
use Rattle.line_plan.specs.Frames.{BoxFields}
use Rattle.line_plan.specs.Plans.{IsPlan, PlanFields}
use Rattle.line_law.specs.declared.call.Act.{Act}
use Rattle.line_law.specs.declared.call.Act.TheVariants as acts
use Rattle.line_law.specs.declared.call.Call.{Call}
use Rattle.line_law.specs.declared.call.Entry.{Entry}
use Rattle.line_law.specs.declared.state.BoxState.{BoxState}
use Rattle.line_law.specs.History.{IsLegal, entry_of, part_of, state_of}
use Rattle.line_law.specs.Law.{MayCall, at_moment, box_plan_of, decide, link_of, pair_of}
use Rattle.line_law.specs.Known.{KnowsCall}
use Rattle.line_law.specs.States.{box_at}
use Rattle.line_law.proofs.Outcomes.{outcome_of}
use Rattle.word_laws.specs.Footprint.{Kind, Tally, BellWord, BlockWord, PlainLineWord, kind_of, way_at}
use Rattle.word_laws.specs.Operations.{IsOnWord, first_by, first_on, first_op, second_by, second_on, second_op}
use Rattle.word_laws.specs.WordNumbers.{one_if, NumberAgrees, Word, number_after, word_named, word_of}
use Rattle.word_laws.proofs.WordHistory.{met_number}
use Rattle.box_desk.specs.declared.ask.WordAsk.{WordAsk}
use Rattle.box_desk.specs.Desks.{DeskFields, IsAsked, WordMeets}
use Rattle.word_laws.specs.Operations.{met_by}
use Rattle.box_desk.specs.Steps.{awaits_of}
use Rattle.instrument_rule.specs.declared.view.View.{View}
use Rattle.instrument_rule.specs.Calls.{MayStep, OpFits, Sits, WasSeen, here_at, looks_by, op_word}
use Rattle.word_laws.specs.Operations.{op_decides}
use Rattle.instrument_rule.specs.Calls.{room_seen}
use Rattle.instrument_rule.specs.Rule.{most_entries}
use Rattle.instrument_rule.specs.Told.{MadeOrSaw, WordRead, Saw, Tells}
use Rattle.instrument_rule.specs.Views.{caller_of, held, seeing}
use Rattle.instrument_rule.proofs.Doing.{caller_held}
use Rattle.instrument_rule.proofs.OpWords.{first_word, second_always, second_is}
use Rattle.instrument_rule.proofs.Parts.{own_box}
use Rattle.signalman_seats.specs.Asking.{AsksAt, Decided, Waited, Watched, look_word}
use Rattle.signalman_seats.specs.Looks.{InVain, WereInVain}
use Rattle.signalman_seats.proofs.Deciding.{alone, at_last, first_counted, look_one, looks_few, second_none, sure_met}
use Rattle.signalman_seats.proofs.Deciding.{undecided, waits}

-- ---- the ask of a call, in the box as its post has seen it

-- the operations of an ask are those of the table in the box as its post has seen it
pub record IsAsk (plan : PlanFields) (v : View) (ask : WordAsk) : Type 0 where
  pub first : first_op plan (box_plan_of plan (caller_of v.posts)) ask.call.act (here_at plan v.seen (caller_of v.posts)
      ask.call) ≡ ask.first
  pub second : second_op plan (box_plan_of plan (caller_of v.posts)) ask.call.act
      (here_at plan v.seen (caller_of v.posts) ask.call) ≡ ask.second
  pub awaits : awaits_of ask.call.act ≡ ask.awaits

-- as the desk asks
pub is_ask : (plan : PlanFields) (v : View) (desk : DeskFields) (ask : WordAsk) → AsksAt plan v desk ask
    → IsAsk plan v ask
is_ask plan v desk ask at = record {
  first = ap (λ (here : BoxState). first_op plan (box_plan_of plan (caller_of v.posts)) ask.call.act here) (sym at.here)
      ∙ ap (λ (a : WordAsk). a.first) (sym at.asked.is_ask);
  second = ap (λ (here : BoxState). second_op plan (box_plan_of plan (caller_of v.posts)) ask.call.act here)
      (sym at.here) ∙ ap (λ (a : WordAsk). a.second) (sym at.asked.is_ask);
  awaits = ap (λ (a : WordAsk). a.awaits) (sym at.asked.is_ask);
}

-- an await asks so
pub await_told : (plan : PlanFields) (v : View) (desk : DeskFields) (ask : WordAsk) → AsksAt plan v desk ask
    → awaits_of ask.call.act ≡ true → ask.awaits ≡ true
await_told plan v desk ask at e = sym (is_ask plan v desk ask at).awaits ∙ e

-- yes isn't no
pub differ : true ≡ false → ⊥
differ e = cc

-- the desk tests a word as its box does that the post has seen
pub same_test : (plan : PlanFields) (v : View) (desk : DeskFields) (ask : WordAsk) (n : ℕ) (t : Bool)
    → AsksAt plan v desk ask
    → t ≡ met_by desk.box_plan ask.call.act desk.here n
    → met_by (box_plan_of plan (caller_of v.posts)) ask.call.act (here_at plan v.seen (caller_of v.posts) ask.call) n ≡
    t
same_test plan v desk ask n t at is = sym (is ∙ (λ i. met_by (at.asked.desk_of.box_plan i) ask.call.act (at.here i) n))

-- ---- what was seen, and what follows

-- a beginning of a beginning is a beginning
pub prefix_trans : (xs ys zs : List Entry) → IsPrefix xs ys → IsPrefix ys zs → IsPrefix xs zs
prefix_trans xs ys zs a b = (a.0 ++ b.0, sym (append_assoc xs a.0 b.0) ∙ ap (λ (l : List Entry). l ++ b.0) a.1 ∙ b.1)

saw_is : (plan : PlanFields) (call : Call) (op : WordOp) (last : Bool) (v : View) (n : ℕ) (w : View)
    → Tells plan call op last v n w
    → op_decides (box_plan_of plan (caller_of v.posts)) call.act (here_at plan v.seen (caller_of v.posts) call) op last
    n ≡ false → MadeOrSaw false plan call op v n w
saw_is plan call op last v n w told h = subst (λ (d : Bool). MadeOrSaw d plan call op v n w) h told

pub made_is : (plan : PlanFields) (call : Call) (op : WordOp) (last : Bool) (v : View) (n : ℕ) (w : View)
    → Tells plan call op last v n w
    → op_decides (box_plan_of plan (caller_of v.posts)) call.act (here_at plan v.seen (caller_of v.posts) call) op last
    n ≡ true → MadeOrSaw true plan call op v n w
made_is plan call op last v n w told h = subst (λ (d : Bool). MadeOrSaw d plan call op v n w) h told

-- a seat that looked has watched
pub watched : (plan : PlanFields) (word : Word) (l : ℕ) (room : Option Way) (v : View) (n : ℕ) (w : View) → IsPlan plan
    → v.posts ≢ [] → Saw plan word l 0 room v n w → Watched plan v l w
watched plan word l room v n w is holds s = subst (Watched plan v l) (sym s.now) record {
  seen = s.met.seen;
  same_box = own_box plan (caller_of v.posts) v.seen s.log is s.met.seen.begins s.met.legal
      (s.met.seen.own (caller_of v.posts) (caller_held v.posts holds));
  same_plan = refl;
  posts = refl;
  olds = refl;
  looked = refl;
  glances = omega arith;
}

-- after looks the same may follow as before
pub sits_after : (plan : PlanFields) (v w : View) (l : ℕ) → Watched plan v l w → Sits plan v → Sits plan w
sits_after plan v w l h sits = (h.same_plan ∙ sits.0, h.olds)

-- while a man watches his box stays as it was
pub same_here : (plan : PlanFields) (v w : View) (l : ℕ) (call : Call) → Watched plan v l w
    → here_at plan v.seen (caller_of v.posts) call ≡ here_at plan w.seen (caller_of w.posts) call
same_here plan v w l call h = ap (λ (x : BoxState). at_moment x call.moment) (sym h.same_box)
    ∙ ap (λ (ps : List ℕ). here_at plan w.seen (caller_of ps) call) (sym h.posts)

-- and he may still make his call
pub may_after : (plan : PlanFields) (v w : View) (l : ℕ) (call : Call) → Watched plan v l w → MayStep plan call v
    → MayStep plan call w
may_after plan v w l call h may = record {
  holds = subst (λ (ps : List ℕ). ps ≢ []) (sym h.posts) may.holds;
  call_may = subst (λ (ps : List ℕ). MayCall plan (state_of plan w.seen) (caller_of ps) call) (sym h.posts)
      (record {
        known = may.call_may.known;
        later = subst (λ (x : BoxState). x.moment ≤ call.moment) (sym h.same_box)
            may.call_may.later;
      });
  spare = subst (λ (ps : List ℕ). length (part_of (caller_of ps) w.seen) < most_entries) (sym h.posts)
      (subst (λ (es : List Entry). length es < most_entries) (sym
      (h.seen.own (caller_of v.posts) (caller_held v.posts may.holds))) may.spare);
}

pub ask_after : (plan : PlanFields) (v w : View) (l : ℕ) (ask : WordAsk) → Watched plan v l w → IsAsk plan v ask
    → IsAsk plan w ask
ask_after plan v w l ask h is = record {
  first = (λ i. first_op plan (box_plan_of plan (caller_of (h.posts i))) ask.call.act (back i)) ∙ is.first;
  second = (λ i. second_op plan (box_plan_of plan (caller_of (h.posts i))) ask.call.act (back i)) ∙ is.second;
  awaits = is.awaits;
}
  where
    back : here_at plan w.seen (caller_of w.posts) ask.call ≡ here_at plan v.seen (caller_of v.posts) ask.call
    back = sym (same_here plan v w l ask.call h)

-- what a look has seen that a second operation may count on
same_code : (m n : ℕ) → (m == n) ≡ true → m ≡ n
same_code m n h = grind (arith, nat_tests)

was_seen_by : (plan : PlanFields) (b : ℕ) (v : View) (act : Act) (here : BoxState) (n : ℕ) (log : List Entry) (l : ℕ)
    (op : WordOp) → second_by (box_plan_of plan b) act here ≡ Some op → met_by (box_plan_of plan b) act here n ≡ true
    → n ≡ number_after plan log (op_word b act (first_by (box_plan_of plan b) act here))
    → WasSeen plan b (seeing v log l 0 (room_seen (box_plan_of plan b) act v.room)) act
was_seen_by plan b v (acts.AwaitBell side code) here n log l op e h found = ap bell_code (sym found)
    ∙ same_code (bell_code n) code h
was_seen_by plan b v (acts.Pass lever) here n log l op e h found = refl
was_seen_by plan b v (acts.Overrun lever) here n log l op e h found = refl
was_seen_by plan b v act here n log l op e h found = absurd cc

was_seen : (plan : PlanFields) (b : ℕ) (v : View) (act : Act) (here : BoxState) (k : Kind) (n : ℕ) (log : List Entry)
    (l : ℕ) (op : WordOp) → second_on k (second_by (box_plan_of plan b) act here) ≡ Some op
    → met_by (box_plan_of plan b) act here n ≡ true → n ≡ number_after plan log
    (op_word b act (first_on k (first_by (box_plan_of plan b) act here)))
    → WasSeen plan b (seeing v log l 0 (room_seen (box_plan_of plan b) act v.room)) act
was_seen plan b v act here Tally n log l op e h found = absurd cc
was_seen plan b v act here BellWord n log l op e h found = was_seen_by plan b v act here n log l op e h found
was_seen plan b v act here BlockWord n log l op e h found = was_seen_by plan b v act here n log l op e h found
was_seen plan b v act here PlainLineWord n log l op e h found = was_seen_by plan b v act here n log l op e h found

-- ---- a look with its ask

module _ (plan : PlanFields) (ask : WordAsk) (last : Bool) (v : View) (n : ℕ) (w : View) (is : IsPlan plan)
    (sits : Sits plan v) (may : MayStep plan ask.call v) (asked : IsAsk plan v ask)
    (told : Tells plan ask.call ask.first last v n w) where
  abbrev bp : BoxFields
  bp = box_plan_of plan (caller_of v.posts)

  abbrev here : BoxState
  here = here_at plan v.seen (caller_of v.posts) ask.call

  -- the same of the first operation as the law gives it
  pub by_first : (d : Bool) → op_decides (box_plan_of plan (caller_of v.posts)) ask.call.act
      (here_at plan v.seen (caller_of v.posts) ask.call) (first_op plan (box_plan_of plan (caller_of v.posts))
      ask.call.act (here_at plan v.seen (caller_of v.posts) ask.call)) last n ≡ d
      → op_decides (box_plan_of plan (caller_of v.posts)) ask.call.act (here_at plan v.seen (caller_of v.posts)
      ask.call) ask.first last n ≡ d
  by_first d h = subst (λ (o : WordOp). op_decides (box_plan_of plan (caller_of v.posts)) ask.call.act
      (here_at plan v.seen (caller_of v.posts) ask.call) o last n ≡ d) asked.first h

  pub saw_then : op_decides (box_plan_of plan (caller_of v.posts)) ask.call.act (here_at plan v.seen (caller_of v.posts)
      ask.call) ask.first last n ≡ false → Watched plan v (looks_by ask.call.act ask.first) w
  saw_then h = watched plan _ (looks_by ask.call.act ask.first) _ v n w is may.holds
      (saw_is plan ask.call ask.first last v n w told h)

  -- what a second operation asks
  pub record FollowedBy (op : WordOp) : Type 0 where
    pub seen : Watched plan v (looks_by ask.call.act ask.first) w
    pub fits : OpFits plan (caller_of w.posts) ask.call op w

  pub followed : (op : WordOp) → met_by (box_plan_of plan (caller_of v.posts)) ask.call.act
      (here_at plan v.seen (caller_of v.posts) ask.call) n ≡ true → ask.second ≡ Some op → FollowedBy op
  followed op hit two =
      let k : Kind = kind_of (decide plan (box_plan_of plan (caller_of v.posts)) ask.call.act
      (here_at plan v.seen (caller_of v.posts) ask.call)) in
      let e : second_on k (second_by (box_plan_of plan (caller_of v.posts)) ask.call.act
      (here_at plan v.seen (caller_of v.posts) ask.call)) ≡ Some op = asked.second ∙ two in
      let h = by_first false (undecided (box_plan_of plan (caller_of v.posts)) ask.call.act
      (here_at plan v.seen (caller_of v.posts) ask.call) k n last op e hit) in
      let s = saw_is plan ask.call ask.first last v n w told h in
      let looked = saw_then h in
      let seen : WasSeen plan (caller_of v.posts) w ask.call.act = subst (λ (x : View). WasSeen plan (caller_of v.posts)
      x ask.call.act) (sym s.now)
      (was_seen plan (caller_of v.posts) v ask.call.act (here_at plan v.seen (caller_of v.posts) ask.call) k n s.log
      (looks_by ask.call.act ask.first) op e hit
      (s.met.found ∙ ap (λ (o : WordOp). number_after plan s.log (op_word (caller_of v.posts) ask.call.act o))
      (sym asked.first))) in
      record {
        seen = looked;
        fits = inr (
          (ask_after plan v w (looks_by ask.call.act ask.first) ask looked asked).second
              ∙ two,
          subst (λ (ps : List ℕ). WasSeen plan (caller_of ps) w ask.call.act) (sym looked.posts) seen,
        );
      }

-- the call is decided after looks
pub decided : (plan : PlanFields) (call : Call) (op : WordOp) (last : Bool) (v w x : View) (l n looks : ℕ)
    → l + looks_by call.act op ≤ looks
    → (awaits_of call.act ≡ true → met_by (box_plan_of plan (caller_of v.posts)) call.act
    (here_at plan v.seen (caller_of v.posts) call) n ≡ false
    → (l + looks_by call.act op ≡ looks)
    × InVain plan (caller_of v.posts) call (look_word plan v call) looks v.seen x.seen)
    → v.posts ≢ [] → Watched plan v l w → Tells plan call op last w n x
    → op_decides (box_plan_of plan (caller_of w.posts)) call.act (here_at plan w.seen (caller_of w.posts) call) op last
    n ≡ true → Decided plan call looks v n x
decided plan call op last v w x l n looks most vain holds h told sure =
    let m = made_is plan call op last w n x told sure in
    let same : caller_of w.posts ≡ caller_of v.posts = ap caller_of h.posts in
    record {
      log = m.log;
      op = op;
      met = record {
        seen = record {
          begins = prefix_trans v.seen w.seen m.log h.seen.begins m.met.seen.begins;
          own = λ p mine. m.met.seen.own p (subst (λ (ps : List ℕ). 0 < held p ps) (sym h.posts) mine)
              ∙ h.seen.own p mine;
        };
        legal = m.met.legal;
        few = m.met.few;
        found = m.met.found ∙ ap (λ (b : ℕ). number_after plan m.log (op_word b call.act op)) same;
      };
      legal = subst (λ (b : ℕ). IsLegal plan (m.log ++ entry_of plan (state_of plan m.log) b call ∷ [])) same m.legal;
      its_word = subst (λ (b : ℕ). op_word b call.act op ≡ word_of plan (entry_of plan (state_of plan m.log) b call))
          same m.its_word;
      now = ap (λ (z : View). z.seen) m.now ∙ ap (λ (b : ℕ). m.log ++ entry_of plan (state_of plan m.log) b call ∷ [])
          same;
      same_plan = ap (λ (z : View). z.plan) m.now ∙ h.same_plan;
      posts = ap (λ (z : View). z.posts) m.now ∙ h.posts;
      olds = ap (λ (z : View). z.olds) m.now;
      looked = (
        l + looks_by call.act op,
        (let a : x.looks ≡ w.looks + looks_by call.act op = ap (λ (z : View). z.looks)
            m.now in let b = h.looked in omega arith),
        most,
        vain,
      );
      glances = let a : x.glances ≡ w.glances + 0 = ap (λ (z : View). z.glances) m.now in let b = h.glances in
          omega arith;
    }

-- nothing was looked at yet
pub not_yet : (plan : PlanFields) (v : View) → v.olds ≡ [] → Watched plan v 0 v
not_yet plan v none_old = record {
  seen = record { begins = ([], append-nil v.seen); own = λ p h. refl };
  same_box =
      refl;
  same_plan = refl;
  posts = refl;
  olds = none_old;
  looked = omega arith;
  glances = refl;
}

-- a second operation decides the call
pub second_decides : (plan : PlanFields) (ask : WordAsk) (v : View) (op : WordOp) (n : ℕ) → IsAsk plan v ask
    → ask.second ≡ Some op
    → op_decides (box_plan_of plan (caller_of v.posts)) ask.call.act (here_at plan v.seen (caller_of v.posts) ask.call)
    op true n ≡ true
second_decides plan ask v op n asked two =
    let here : BoxState = here_at plan v.seen (caller_of v.posts) ask.call in
    let box_plan : BoxFields = box_plan_of plan (caller_of v.posts) in
    second_always box_plan ask.call.act here here n true op (second_is
    (kind_of (decide plan box_plan ask.call.act here)) (second_by box_plan ask.call.act here) op (asked.second
    ∙ two))

-- a look that isn't the last of its call is an await's
pub await_yes : (t a l : Bool) → t ≡ a → (a ≡ false → l ≡ true) → l ≡ false → t ≡ true
await_yes true a l e h more = refl
await_yes false a l e h more = let must : l ≡ true = h (sym e) in absurd cc

-- the box stays as the post has seen it in every history that an operation meets
pub met_here : (plan : PlanFields) (log : List Entry) (word : Word) (v : View) (n : ℕ) → IsPlan plan → v.posts ≢ []
    → WordRead plan log word v n
    → box_at (state_of plan log) (caller_of v.posts) ≡ box_at (state_of plan v.seen) (caller_of v.posts)
met_here plan log word v n is holds met = own_box plan (caller_of v.posts) v.seen log is met.seen.begins met.legal
    (met.seen.own (caller_of v.posts) (caller_held v.posts holds))

-- one look that has not met what its call looks for
pub one_in_vain : (plan : PlanFields) (call : Call) (op : WordOp) (v : View) (n : ℕ) (log after : List Entry)
    → IsPlan plan → v.posts ≢ [] → WordRead plan log (op_word (caller_of v.posts) call.act op) v n
    → first_op plan (box_plan_of plan (caller_of v.posts)) call.act (here_at plan v.seen (caller_of v.posts) call) ≡ op
    → IsPrefix log after
    → met_by (box_plan_of plan (caller_of v.posts)) call.act (here_at plan v.seen (caller_of v.posts) call) n ≡ false
    → InVain plan (caller_of v.posts) call (look_word plan v call) 1 v.seen after
one_in_vain plan call op v n log after is holds met first ends miss = (
  log ∷ [],
  refl,
  (
    ends,
    met.legal,
    (λ i. met_by (box_plan_of plan (caller_of v.posts)) call.act (here i) (number i)) ∙ miss,
    met.seen.begins,
  ),
)
  where
    here : here_at plan log (caller_of v.posts) call ≡ here_at plan v.seen (caller_of v.posts) call
    here = ap (λ (x : BoxState). at_moment x call.moment) (met_here plan log _ v n is holds met)

    number : number_after plan log (look_word plan v call) ≡ n
    number = sym (met.found
        ∙ ap (λ (o : WordOp). number_after plan log (op_word (caller_of v.posts) call.act o)) (sym first))

-- a look of an await that is not the last
pub awaited : (plan : PlanFields) (ask : WordAsk) (last : Bool) (v : View) (n : ℕ) (w : View) → IsPlan plan
    → MayStep plan ask.call v → IsAsk plan v ask → Tells plan ask.call ask.first last v n w → last ≡ false
    → awaits_of ask.call.act ≡ true → met_by (box_plan_of plan (caller_of v.posts)) ask.call.act
    (here_at plan v.seen (caller_of v.posts) ask.call) n ≡ false → Waited plan ask.call v 1 w
awaited plan ask last v n w is may asked told no_more waits_on missed =
    let box_plan : BoxFields = box_plan_of plan (caller_of v.posts) in
    let here : BoxState = here_at plan v.seen (caller_of v.posts) ask.call in
    let r = waits plan box_plan ask.call.act here n waits_on missed in
    let h : op_decides box_plan ask.call.act here ask.first last n ≡ false = subst (λ (t : Bool). op_decides box_plan
    ask.call.act here ask.first t n ≡ false) (sym no_more)
    (subst (λ (o : WordOp). op_decides box_plan ask.call.act here o false n ≡ false) asked.first r.undecided) in
    let saw = saw_is plan ask.call ask.first last v n w told h in
    record {
      watched = subst (λ (l : ℕ). Watched plan v l w) (ap (looks_by ask.call.act) (sym asked.first)
          ∙ r.one) (watched plan _ (looks_by ask.call.act ask.first) _ v n w is may.holds saw);
      in_vain = one_in_vain plan ask.call ask.first v n saw.log w.seen is may.holds saw.met asked.first
          ([], append-nil saw.log ∙ sym (ap (λ (x : View). x.seen) saw.now)) missed;
    }

-- looks after looks
pub more_looks : (plan : PlanFields) (v w x : View) (l m : ℕ) → v.posts ≢ [] → Watched plan v l w → Watched plan w m x
    → Watched plan v (l + m) x
more_looks plan v w x l m holds h k = record {
  seen = record {
    begins = prefix_trans v.seen w.seen x.seen h.seen.begins k.seen.begins;
    own = λ p mine. k.seen.own p (subst (λ (ps : List ℕ). 0 < held p ps) (sym h.posts) mine) ∙ h.seen.own p mine;
  };
  same_box = ap (λ (ps : List ℕ). box_at (state_of plan x.seen) (caller_of ps)) (sym h.posts)
      ∙ (k.same_box ∙ (ap (λ (ps : List ℕ). box_at (state_of plan w.seen) (caller_of ps)) h.posts ∙ h.same_box));
  same_plan = k.same_plan ∙ h.same_plan;
  posts = k.posts ∙ h.posts;
  olds = k.olds;
  looked = let a = h.looked in let b = k.looked in omega arith;
  glances = k.glances ∙ h.glances;
}

-- what was in vain stays so when more is seen
later_end : (plan : PlanFields) (b : ℕ) (call : Call) (word : Word) (before : List Entry) (logs : List (List Entry))
    (after later : List Entry) → WereInVain plan b call word before logs after → IsPrefix after later
    → WereInVain plan b call word before logs later
later_end plan b call word before [] after later h more = prefix_trans before after later h more
later_end plan b call word before (log ∷ logs) after later h more =
    (prefix_trans log after later h.0 more, h.1, h.2, h.3)

both_in_vain : (plan : PlanFields) (b : ℕ) (call : Call) (word : Word) (before : List Entry)
    (logs : List (List Entry)) (mid : List Entry) (more : List (List Entry)) (after : List Entry)
    → WereInVain plan b call word before logs mid → WereInVain plan b call word mid more after
    → WereInVain plan b call word before (more ++ logs) after
both_in_vain plan b call word before logs mid [] after h k = later_end plan b call word before logs mid after h k
both_in_vain plan b call word before logs mid (log ∷ more) after h k =
    (k.0, k.1, k.2, both_in_vain plan b call word before logs mid more log h k.3)

more_in_vain : (plan : PlanFields) (call : Call) (v w x : View) (l m : ℕ) → Watched plan v l w
    → InVain plan (caller_of v.posts) call (look_word plan v call) l v.seen w.seen
    → InVain plan (caller_of w.posts) call (look_word plan w call) m w.seen x.seen
    → InVain plan (caller_of v.posts) call (look_word plan v call) (l + m) v.seen x.seen
more_in_vain plan call v w x l m h early late = (
  late.0 ++ early.0,
  (let n = length-append late.0 early.0 in let a = early.1 in let c = late.1 in omega arith),
  both_in_vain plan (caller_of v.posts) call (look_word plan v call) v.seen early.0 w.seen late.0 x.seen early.2 moved,
)
  where
    back : here_at plan w.seen (caller_of w.posts) call ≡ here_at plan v.seen (caller_of v.posts) call
    back = sym (same_here plan v w l call h)

    word : look_word plan w call ≡ look_word plan v call
    word = λ i. op_word (caller_of (h.posts i)) call.act
        (first_op plan (box_plan_of plan (caller_of (h.posts i))) call.act (back i))

    moved : WereInVain plan (caller_of v.posts) call (look_word plan v call) w.seen late.0 x.seen
    moved = subst (λ (o : Word). WereInVain plan (caller_of v.posts) call o w.seen late.0 x.seen) word
        (subst (λ (b : ℕ). WereInVain plan b call (look_word plan w call) w.seen late.0 x.seen)
        (ap caller_of h.posts) late.2)

-- looks in vain after looks in vain
pub more_waits : (plan : PlanFields) (call : Call) (v w x : View) (l m : ℕ) → v.posts ≢ [] → Waited plan call v l w
    → Waited plan call w m x → Waited plan call v (l + m) x
more_waits plan call v w x l m holds h k = record {
  watched = more_looks plan v w x l m holds h.watched k.watched;
  in_vain = more_in_vain plan call v w x l m h.watched h.in_vain k.in_vain;
}

-- a word that was met for a call agrees with the box, where the call is decided on that word
pub met_agrees : (plan : PlanFields) (log : List Entry) (word : Word) (v : View) (n : ℕ) (call : Call) → IsPlan plan
    → v.posts ≢ [] → KnowsCall plan (caller_of v.posts) call
    → WordRead plan log word v n → IsOnWord (kind_of (decide plan (box_plan_of plan (caller_of v.posts)) call.act
    (here_at plan v.seen (caller_of v.posts) call)))
    → word ≡ word_named (kind_of (decide plan (box_plan_of plan (caller_of v.posts)) call.act
    (here_at plan v.seen (caller_of v.posts) call))) (caller_of v.posts) (pair_of plan (caller_of v.posts) call)
    (way_at plan (caller_of v.posts) call)
    → NumberAgrees (kind_of (decide plan (box_plan_of plan (caller_of v.posts)) call.act
    (here_at plan v.seen (caller_of v.posts) call))) (link_of (box_plan_of plan (caller_of v.posts)) call.act)
    (here_at plan v.seen (caller_of v.posts) call) n
met_agrees plan log word v n call is holds known met on named =
    let own = met_here plan log word v n is holds met in
    let P : BoxState → Type 0 = λ here. IsOnWord (kind_of (decide plan (box_plan_of plan (caller_of v.posts)) call.act
    (at_moment here call.moment)))
    → NumberAgrees (kind_of (decide plan (box_plan_of plan (caller_of v.posts)) call.act (at_moment here call.moment)))
    (link_of (box_plan_of plan (caller_of v.posts)) call.act) (at_moment here call.moment)
    (number_after plan log (word_named (kind_of (decide plan (box_plan_of plan (caller_of v.posts)) call.act
    (at_moment here call.moment))) (caller_of v.posts) (pair_of plan (caller_of v.posts) call)
    (way_at plan (caller_of v.posts) call))) in
    let there : P (box_at (state_of plan log) (caller_of v.posts)) = met_number plan log (caller_of v.posts) call is
    met.legal met.few known in
    let found : n ≡ number_after plan log (word_named (kind_of (decide plan (box_plan_of plan (caller_of v.posts))
    call.act (here_at plan v.seen (caller_of v.posts) call))) (caller_of v.posts)
    (pair_of plan (caller_of v.posts) call) (way_at plan (caller_of v.posts) call)) = met.found
    ∙ ap (number_after plan log) named in
    subst (λ (m : ℕ). NumberAgrees (kind_of (decide plan (box_plan_of plan (caller_of v.posts)) call.act
    (here_at plan v.seen (caller_of v.posts) call))) (link_of (box_plan_of plan (caller_of v.posts)) call.act)
    (here_at plan v.seen (caller_of v.posts) call) m) (sym found)
    (subst P own there on)

-- the word that an operation met
pub record Meets (plan : PlanFields) (word : Word) (v : View) (n : ℕ) : Type 0 where
  pub log : List Entry
  pub met : WordRead plan log word v n

met_by_step : (d : Bool) (plan : PlanFields) (call : Call) (op : WordOp) (v : View) (n : ℕ) (w : View)
    → MadeOrSaw d plan call op v n w → Meets plan (op_word (caller_of v.posts) call.act op) v n
met_by_step true plan call op v n w made = record { log = made.log; met = made.met }
met_by_step false plan call op v n w saw = record { log = saw.log; met = saw.met }

-- the word of a first operation agrees with the desk
pub desk_meets : (plan : PlanFields) (v : View) (desk : DeskFields) (ask : WordAsk) (last : Bool) (n : ℕ) (w : View)
    → IsPlan plan → v.posts ≢ [] → AsksAt plan v desk ask
    → Tells plan ask.call ask.first last v n w → WordMeets plan (caller_of v.posts) desk ask n
desk_meets plan v desk ask last n w is holds at told =
    let b : ℕ = caller_of v.posts in
    let box_plan : BoxFields = box_plan_of plan (caller_of v.posts) in
    let here : BoxState = here_at plan v.seen (caller_of v.posts) ask.call in
    let m = met_by_step (op_decides (box_plan_of plan (caller_of v.posts)) ask.call.act
    (here_at plan v.seen (caller_of v.posts) ask.call) ask.first last n) plan ask.call ask.first v n w told in
    let named = ap (λ (o : WordOp). op_word (caller_of v.posts) ask.call.act o) (sym (is_ask plan v desk ask at).first)
    ∙ first_word plan box_plan b ask.call.act here _ (outcome_of plan box_plan ask.call.act here) in
    let on : IsOnWord (kind_of (decide plan (box_plan_of plan (caller_of v.posts)) ask.call.act
    (here_at plan v.seen (caller_of v.posts) ask.call))) = subst
    (λ (x : BoxState). IsOnWord (kind_of (decide plan (box_plan_of plan (caller_of v.posts)) ask.call.act x)))
    at.here at.asked.on_word in
    subst (λ (x : BoxState). NumberAgrees (kind_of (decide plan (box_plan_of plan (caller_of v.posts)) ask.call.act x))
    (link_of (box_plan_of plan (caller_of v.posts)) ask.call.act) x n) (sym at.here)
    (met_agrees plan m.log (op_word (caller_of v.posts) ask.call.act ask.first) v n ask.call is holds at.asked.known
    m.met on named)

-- what was met is met, after looks as before
pub same_met : (plan : PlanFields) (v w : View) (l : ℕ) (call : Call) (n : ℕ) → Watched plan v l w
    → met_by (box_plan_of plan (caller_of v.posts)) call.act (here_at plan v.seen (caller_of v.posts) call) n ≡ false
    → met_by (box_plan_of plan (caller_of w.posts)) call.act (here_at plan w.seen (caller_of w.posts) call) n ≡ false
same_met plan v w l call n h miss =
    let there = sym (same_here plan v w l call h) in
    (λ i. met_by (box_plan_of plan (caller_of (h.posts i))) call.act (there i) n) ∙ miss

-- a look of an await is one look, and any operation one at most
-- the looks of a first operation of an ask, and of a second
pub ask_one : (plan : PlanFields) (v : View) (ask : WordAsk) → IsAsk plan v ask → awaits_of ask.call.act ≡ true
    → looks_by ask.call.act ask.first ≡ 1
ask_one plan v ask asked a = ap (looks_by ask.call.act) (sym asked.first)
    ∙ look_one plan (box_plan_of plan (caller_of v.posts)) ask.call.act (here_at plan v.seen (caller_of v.posts)
    ask.call) a

pub ask_none : (plan : PlanFields) (v : View) (ask : WordAsk) (op : WordOp) → IsAsk plan v ask → ask.second ≡ Some op
    → looks_by ask.call.act op ≡ 0
ask_none plan v ask op asked two =
    let here : BoxState = here_at plan v.seen (caller_of v.posts) ask.call in
    let box_plan : BoxFields = box_plan_of plan (caller_of v.posts) in
    second_none box_plan ask.call.act here op (second_is (kind_of (decide plan box_plan ask.call.act here))
    (second_by box_plan ask.call.act here) op (asked.second ∙ two))

pub second_found : (plan : PlanFields) (ask : WordAsk) (v w x : View) (l n : ℕ) (op : WordOp)
    → awaits_of ask.call.act ≡ true → Watched plan v l w → IsAsk plan v ask → ask.second ≡ Some op
    → Tells plan ask.call op true w n x
    → met_by (box_plan_of plan (caller_of v.posts)) ask.call.act (here_at plan v.seen (caller_of v.posts) ask.call) n ≡
    true
second_found plan ask v w x l n op a h asked two told =
    let after : IsAsk plan w ask = ask_after plan v w l ask h asked in
    let m = made_is plan ask.call op true w n x told (second_decides plan ask w op n after two) in
    let here = same_here plan v w l ask.call h in
    let posts = sym h.posts in
    (λ i. met_by (box_plan_of plan (caller_of (posts i))) ask.call.act (here i) n)
    ∙ sure_met plan (box_plan_of plan (caller_of w.posts)) ask.call.act (here_at plan w.seen (caller_of w.posts)
    ask.call) op n a (after.second ∙ two) m.sure

-- a call that is decided after looks is decided
pub decided_after : (plan : PlanFields) (call : Call) (v w x : View) (l n few looks : ℕ) → l + few ≤ looks
    → (awaits_of call.act ≡ true → met_by (box_plan_of plan (caller_of v.posts)) call.act
    (here_at plan v.seen (caller_of v.posts) call) n ≡ false → l + few ≡ looks)
    → v.posts ≢ [] → Waited plan call v l w → Decided plan call few w n x → Decided plan call looks v n x
decided_after plan call v w x l n few looks most vain holds waited d =
    let h = waited.watched in
    let same : caller_of w.posts ≡ caller_of v.posts = ap caller_of h.posts in
    record {
      log = d.log;
      op = d.op;
      met = record {
        seen = record {
          begins = prefix_trans v.seen w.seen d.log h.seen.begins d.met.seen.begins;
          own = λ p mine. d.met.seen.own p (subst (λ (ps : List ℕ). 0 < held p ps) (sym h.posts) mine)
              ∙ h.seen.own p mine;
        };
        legal = d.met.legal;
        few = d.met.few;
        found = d.met.found ∙ ap (λ (b : ℕ). number_after plan d.log (op_word b call.act d.op)) same;
      };
      legal = subst (λ (b : ℕ). IsLegal plan (d.log ++ entry_of plan (state_of plan d.log) b call ∷ [])) same d.legal;
      its_word = subst (λ (b : ℕ). op_word b call.act d.op ≡ word_of plan (entry_of plan (state_of plan d.log) b call))
          same d.its_word;
      now = d.now ∙ ap (λ (b : ℕ). d.log ++ entry_of plan (state_of plan d.log) b call ∷ []) same;
      same_plan = d.same_plan ∙ h.same_plan;
      posts = d.posts ∙ h.posts;
      olds = d.olds;
      looked = (
        l + d.looked.0,
        (let a = d.looked.1 in let b = h.looked in omega arith),
        (let a = d.looked.2 in omega arith),
        λ await miss. (let one = d.looked.3 await (same_met plan v w l call n h miss) in let all = vain await miss in
            let few_all = one.0 in (
              omega arith,
              subst (λ (k : ℕ). InVain plan (caller_of v.posts) call (look_word plan v call) k v.seen x.seen) all
                  (more_in_vain plan call v w x l few h waited.in_vain one.1),
            )),
      );
      glances = d.glances ∙ h.glances;
    }

-- the desk asks after looks as it did before
pub asks_after : (plan : PlanFields) (v w : View) (l : ℕ) (desk : DeskFields) (ask : WordAsk) → Watched plan v l w
    → AsksAt plan v desk ask → AsksAt plan w desk ask
asks_after plan v w l desk ask h at = record {
  asked = subst (λ (ps : List ℕ). IsAsked plan (caller_of ps) desk ask) (sym h.posts) at.asked;
  here = at.here ∙ same_here plan v w l ask.call h;
}

-- ---- what one look of a call comes to

module _ (plan : PlanFields) (v : View) (desk : DeskFields) (ask : WordAsk) (last : Bool) (n : ℕ) (w : View)
    (is : IsPlan plan) (sits : Sits plan v) (may : MayStep plan ask.call v) (at : AsksAt plan v desk ask)
    (told : Tells plan ask.call ask.first last v n w) (t : Bool) (test : t ≡ met_by desk.box_plan ask.call.act desk.here
    n) where
  -- it met what the call looks for, and the second operation may come
  pub record Due (op : WordOp) : Type 0 where
    pub watched : Watched plan v (looks_by ask.call.act ask.first) w
    pub sits_then : Sits plan w
    pub may_then : MayStep plan ask.call w
    pub fits : OpFits plan (caller_of w.posts) ask.call op w

  pub due : (op : WordOp) → t ≡ true → ask.second ≡ Some op → Due op
  due op hit two =
      let f = followed plan ask last v n w is sits may (is_ask plan v desk ask at) told op
      (same_test plan v desk ask n t at test ∙ hit) two in
      record {
        watched = f.seen;
        sits_then = sits_after plan v w (looks_by ask.call.act ask.first) f.seen sits;
        may_then = may_after plan v w (looks_by ask.call.act ask.first) ask.call f.seen may;
        fits = f.fits;
      }

  -- the second operation decides it
  pub second_decided : (op : WordOp) (m : ℕ) (x : View) → t ≡ true → ask.second ≡ Some op
      → Tells plan ask.call op true w m x → Decided plan ask.call 1 v m x
  second_decided op m x hit two then_told =
      let d = due op hit two in
      let asked = is_ask plan v desk ask at in
      let none = ask_none plan v ask op asked two in
      let few = looks_few ask.call.act ask.first in
      decided plan ask.call op true v w x (looks_by ask.call.act ask.first) m 1 (omega arith)
      (λ a miss. (let found = second_found plan ask v w x (looks_by ask.call.act ask.first) m op a d.watched asked two
      then_told in absurd (differ (sym found ∙ miss)))) may.holds d.watched then_told
      (second_decides plan ask w op m (ask_after plan v w (looks_by ask.call.act ask.first) ask d.watched asked) two)

  -- it was counted, where its call is an await
  step_counted : (d : Bool) → MadeOrSaw d plan ask.call ask.first v n w
      → w.looks ≡ v.looks + looks_by ask.call.act ask.first
  step_counted true made = ap (λ (x : View). x.looks) made.now
  step_counted false saw = ap (λ (x : View). x.looks) saw.now

  pub counted : w.looks ≡ v.looks + one_if ask.awaits
  counted =
      let asked = is_ask plan v desk ask at in
      step_counted (op_decides (box_plan_of plan (caller_of v.posts)) ask.call.act
      (here_at plan v.seen (caller_of v.posts) ask.call) ask.first last n) told
      ∙ ap (λ (l : ℕ). v.looks + l) (ap (looks_by ask.call.act) (sym asked.first)
      ∙ (first_counted plan (box_plan_of plan (caller_of v.posts)) ask.call.act
      (here_at plan v.seen (caller_of v.posts) ask.call) ∙ ap one_if asked.awaits))

  pub second_counted : (op : WordOp) (m : ℕ) (x : View) → t ≡ true → ask.second ≡ Some op
      → Tells plan ask.call op true w m x → x.looks ≡ v.looks + one_if ask.awaits
  second_counted op m x hit two then_told =
      let d = due op hit two in
      let asked = is_ask plan v desk ask at in
      let made = made_is plan ask.call op true w m x then_told
      (second_decides plan ask w op m (ask_after plan v w (looks_by ask.call.act ask.first) ask d.watched asked)
      two) in
      let more = ap (λ (y : View). y.looks) made.now in
      let none = ask_none plan v ask op asked two in
      let one = counted in
      omega (arith, more, none, one)

  -- an await has met what it looks for where its second operation decides it
  pub second_hits : (op : WordOp) (m : ℕ) (x : View) → t ≡ true → ask.second ≡ Some op → ask.awaits ≡ true
      → Tells plan ask.call op true w m x
      → met_by (box_plan_of plan (caller_of v.posts)) ask.call.act (here_at plan v.seen (caller_of v.posts) ask.call)
      m ≡ true
  second_hits op m x hit two await then_told = second_found plan ask v w x (looks_by ask.call.act ask.first) m op
      ((is_ask plan v desk ask at).awaits ∙ await) (due op hit two).watched (is_ask plan v desk ask at) two then_told

  first_decided : op_decides (box_plan_of plan (caller_of v.posts)) ask.call.act
      (here_at plan v.seen (caller_of v.posts) ask.call)
      (first_op plan (box_plan_of plan (caller_of v.posts)) ask.call.act (here_at plan v.seen (caller_of v.posts)
      ask.call)) last n ≡ true → Decided plan ask.call 1 v n w
  first_decided sure =
      let asked = is_ask plan v desk ask at in
      let few = looks_few ask.call.act ask.first in
      let decides = by_first plan ask last v n w is sits may asked told true sure in
      let made = made_is plan ask.call ask.first last v n w told decides in
      decided plan ask.call ask.first last v v w 0 n 1 (omega arith) (λ a miss. (
        let one = ask_one plan v ask asked a in
            omega arith,
        one_in_vain plan ask.call ask.first v n made.log w.seen is may.holds made.met asked.first (
          entry_of plan (state_of plan made.log) (caller_of v.posts) ask.call ∷ [],
          sym (ap (λ (x : View). x.seen) made.now),
        ) miss,
      )) may.holds (not_yet plan v sits.1) told decides

  -- it met what the call looks for, which has no second operation
  pub alone_decided : t ≡ true → ask.second ≡ None → Decided plan ask.call 1 v n w
  alone_decided hit none = first_decided (alone (box_plan_of plan (caller_of v.posts)) ask.call.act
      (here_at plan v.seen (caller_of v.posts) ask.call)
      (kind_of (decide plan (box_plan_of plan (caller_of v.posts)) ask.call.act (here_at plan v.seen (caller_of v.posts)
      ask.call))) n last
      ((is_ask plan v desk ask at).second ∙ none) (same_test plan v desk ask n t at test ∙ hit))

  -- it is the last, and has not met it
  pub last_decided : t ≡ false → last ≡ true → Decided plan ask.call 1 v n w
  last_decided miss over = first_decided (subst (λ (l : Bool). op_decides (box_plan_of plan (caller_of v.posts))
      ask.call.act (here_at plan v.seen (caller_of v.posts) ask.call)
      (first_op plan (box_plan_of plan (caller_of v.posts)) ask.call.act (here_at plan v.seen (caller_of v.posts)
      ask.call)) l n ≡ true) (sym over)
      (at_last (box_plan_of plan (caller_of v.posts)) ask.call.act (here_at plan v.seen (caller_of v.posts) ask.call)
      (kind_of (decide plan (box_plan_of plan (caller_of v.posts)) ask.call.act (here_at plan v.seen (caller_of v.posts)
      ask.call))) n (same_test plan v desk ask n t at test ∙ miss)))

  -- another may follow
  pub goes_on : t ≡ false → last ≡ false → (ask.awaits ≡ false → last ≡ true) → Waited plan ask.call v 1 w
  goes_on miss more once = let asked = is_ask plan v desk ask at in
      awaited plan ask last v n w is may asked told more (await_yes (awaits_of ask.call.act) ask.awaits last
      asked.awaits once more) (same_test plan v desk ask n t at test ∙ miss)
