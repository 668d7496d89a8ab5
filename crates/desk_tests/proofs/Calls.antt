-- One call of a desk over words that are plain numbers: what holds after it, by its entry.
use Rattle.std.proofs.Common.{◌≡◌, ◌≢◌, ℕ, ◌+◌, ◌^◌, ◌<◌, ◌≤◌, true, false, inl, inr, List, [], ◌∷◌, length}
use Rattle.std.proofs.Common.{get_or, set, Option, Some, sym, refl, ap, ◌∙◌, subst, arith, length-append}
use Rattle.std.proofs.Common.{length-set}
use Rattle.std.proofs.lemmas.List.{get_or-set_other, get_or-set_same, set-get_or}
use Rattle.std.specs.Prelude.{◌==◌, ◌⊎◌}
use Rattle.std.proofs.lemmas.Bool.Decides.{eqb_tells}
use Rattle.block_words.specs.Operations.{word_after}
use Rattle.block_words.specs.declared.Way.{Way}
use Rattle.block_words.specs.declared.WordOp.{WordOp}
use Rattle.block_words.specs.declared.WordOp.TheVariants as ops
use Rattle.line_plan.specs.Frames.{BoxFields}
use Rattle.line_plan.specs.Plans.{PlanFields}
use Rattle.line_law.specs.declared.call.Call.{Call}
use Rattle.line_law.specs.declared.call.Entry.{Entry}
use Rattle.line_law.specs.declared.call.Reply.{Reply}
use Rattle.line_law.specs.declared.state.BoxState.{BoxState}
use Rattle.line_law.specs.declared.state.PairState.{PairState}
use Rattle.line_law.specs.Decisions.{Decision, Here, OnBell, OnBlock, OnPlainLine, on_pair}
use Rattle.line_law.specs.History.{IsLegal, entry_of, state_of}
use Rattle.line_law.specs.Law.{at_moment, box_plan_of, decide, link_of, pair_of, step}
use Rattle.line_law.specs.Links.{pair_no, way_of}
use Rattle.line_law.specs.Outcomes.{Outcome}
use Rattle.line_law.specs.States.{LineState, box_at, no_state, pair_at}
use Rattle.line_law.proofs.Histories.{history_grows, history_states, state_grows}
use Rattle.line_law.proofs.Lines.{has_places}
use Rattle.line_law.proofs.Outcomes.{outcome_of}
use Rattle.word_laws.specs.Footprint.{Kind, Tally, BellWord, BlockWord, PlainLineWord, kind_at, kind_of}
use Rattle.word_laws.specs.Operations.{AtFirst, AtSecond, FirstDecides, FirstOn, IsOnWord, MovesWord}
use Rattle.word_laws.specs.Operations.{first_by, first_on, first_op, second_op}
use Rattle.word_laws.specs.WordNumbers.{NumberAgrees, Word, number_after, number_at, word_named}
use Rattle.word_laws.specs.WordPlaces.{IsWordOf, word_place}
use Rattle.word_laws.proofs.TellsKind.{kind_is_told}
use Rattle.word_laws.proofs.WordHistory.{met_number, moves_word}
use Rattle.word_laws.proofs.Agreements.{met_agrees}
use Rattle.word_laws.proofs.WordsInPlace.{one_place, place_within, word_within}
use Rattle.instrument_rule.specs.Calls.{here_at, op_word}
use Rattle.instrument_rule.proofs.OpWords.{decided_on, first_word, second_word}
use Rattle.box_desk.specs.declared.ask.Step.{Step}
use Rattle.box_desk.specs.declared.ask.Step.TheVariants.{Local, NeedsWord}
use Rattle.box_desk.specs.declared.ask.WordAsk.{WordAsk}
use Rattle.box_desk.specs.Desks.{Answers, DeskFields, IsDeskOf, WordMeets, moved_to}
use Rattle.word_laws.specs.Operations.{met_by}
use Rattle.box_desk.specs.Steps.{Finishes, IsTold, ask_of}
use Rattle.desk_tests.specs.DeskLines.{Asks, HoldNumbers, IsDeskAfter, IsDone, IsOperated, IsReady, then_called}
use Rattle.desk_tests.specs.DeskLines.{word_at}
use Rattle.desk_tests.proofs.Deciding.{IsNotDue, first_decides_it, first_looks, second_decides_it}

-- ---- a desk is its box's, whatever it has done

-- a desk is that of its box still where only the state of the box and the count of the calls change
pub stays_desk : (plan : PlanFields) (b : ℕ) (desk : DeskFields) (here : BoxState) (calls : ℕ) → IsDeskOf plan b desk
    → IsDeskOf plan b (record desk { here = here; calls = calls })
stays_desk plan b desk here calls of = record {
  is_plan = of.is_plan;
  on_line = of.on_line;
  box_plan = of.box_plan;
  kept = of.kept;
}

-- ---- what the first step answers

pub record IsLocal (d : Decision) (old : DeskFields) (reply : Reply) (new : DeskFields) : Type 0 where
  pub after : BoxState
  pub decided : d ≡ Here reply after
  pub new_is : new ≡ record old { here = after; calls = old.calls + 1 }

pub local_answer : (d : Decision) (ask : WordAsk) (old : DeskFields) (told : Step) (new : DeskFields) (reply : Reply)
    → Answers d ask old told new → told ≡ Local reply → IsLocal d old reply new
local_answer (Here r after) ask old told new reply h e =
    let first = h.0 in
    let same : r ≡ reply = cc in
    record { after = after; decided = ap (λ (x : Reply). Here x after) same; new_is = h.1 }
local_answer (OnBell act) ask old told new reply h e = let first = h.0 in absurd cc
local_answer (OnBlock act) ask old told new reply h e = let first = h.0 in absurd cc
local_answer (OnPlainLine act) ask old told new reply h e = let first = h.0 in absurd cc

pub record IsWord (d : Decision) (ask asked : WordAsk) (old new : DeskFields) : Type 0 where
  pub on_word : IsOnWord (kind_of d)
  pub ask_is : asked ≡ ask
  pub new_is : new ≡ old

-- where a desk's first step asks for a word, the call is decided on one, the word is the one that the law needs,
-- and nothing has changed
pub word_answer : (d : Decision) (ask asked : WordAsk) (old : DeskFields) (told : Step) (new : DeskFields)
    → Answers d ask old told new → told ≡ NeedsWord asked → IsWord d ask asked old new
word_answer (Here r after) ask asked old told new h e = let first = h.0 in absurd cc
word_answer (OnBell act) ask asked old told new h e =
    let first = h.0 in
    record { on_word = tt; ask_is = cc; new_is = h.1 }
word_answer (OnBlock act) ask asked old told new h e =
    let first = h.0 in
    record { on_word = tt; ask_is = cc; new_is = h.1 }
word_answer (OnPlainLine act) ask asked old told new h e =
    let first = h.0 in
    record { on_word = tt; ask_is = cc; new_is = h.1 }

-- ---- the number of a word of a pair

named_number : (plan : PlanFields) (es : List Entry) (k : Kind) (b p : ℕ) (way : Way) → IsOnWord k
    → number_after plan es (word_named k b p way) ≡ number_at k way (pair_at (state_of plan es) p)
named_number plan es Tally b p way on = absurd on
named_number plan es BellWord b p way on = refl
named_number plan es BlockWord b p way on = refl
named_number plan es PlainLineWord b p way on = refl

local_told : (d : Decision) (way : Way) (pair : PairState) (reply : Reply) (after : BoxState) → d ≡ Here reply after
    → IsTold PairState (on_pair way d pair) reply after
local_told d way pair reply after e = subst (λ (x : Decision). IsTold PairState (on_pair way x pair) reply after)
    (sym e) (record { reply_is = refl; here_is = refl })

-- ---- a call that may follow a history

module _ (plan : PlanFields) (es : List Entry) (b : ℕ) (call : Call) (ready : IsReady plan es b call) where
  legal_then : IsLegal plan (then_called plan es b call)
  legal_then = history_grows plan es b call ready.legal ready.may

  moves : MovesWord plan es (entry_of plan (state_of plan es) b call)
  moves = moves_word plan es (entry_of plan (state_of plan es) b call) ready.is_plan legal_then ready.few

  outcome : Outcome plan (box_plan_of plan b) (here_at plan es b call) call.act
      (decide plan (box_plan_of plan b) call.act (here_at plan es b call))
  outcome = outcome_of plan (box_plan_of plan b) call.act (here_at plan es b call)

  word_is : word_at plan es b call ≡ decided_on (box_plan_of plan b) b call.act
      (decide plan (box_plan_of plan b) call.act (here_at plan es b call))
  word_is = ap (λ (k : Kind). word_named k b (pair_no b (link_of (box_plan_of plan b) call.act))
      (way_of (link_of (box_plan_of plan b) call.act))) (kind_is_told plan (state_of plan es) b call)

  of_line : IsWordOf (length plan.boxes) (word_at plan es b call)
  of_line = word_within plan (entry_of plan (state_of plan es) b call) ready.is_plan ready.may.known

  -- its operations are on its word
  pub first_same : (op : WordOp) → op ≡ first_op plan (box_plan_of plan b) call.act (here_at plan es b call)
      → op_word b call.act op ≡ word_at plan es b call
  first_same op e = ap (op_word b call.act) e
      ∙ (first_word plan (box_plan_of plan b) b call.act (here_at plan es b call) _ outcome ∙ sym word_is)

  pub second_same : (op : WordOp) → second_op plan (box_plan_of plan b) call.act (here_at plan es b call) ≡ Some op
      → op_word b call.act op ≡ word_at plan es b call
  second_same op e = second_word plan (box_plan_of plan b) b call.act (here_at plan es b call) _ outcome op e
      ∙ sym word_is

  pub within : (words : List ℕ) → HoldNumbers plan es words
      → word_place (length plan.boxes) (word_at plan es b call) < length words
  within words holds =
      let p = place_within (length plan.boxes) (word_at plan es b call) of_line in
      let q = p.1 in
      let n = holds.count in
      omega (arith, q, n)

  pub found : (words : List ℕ) → HoldNumbers plan es words
      → get_or words (word_place (length plan.boxes) (word_at plan es b call)) 0
      ≡ number_after plan es (word_at plan es b call)
  found words holds = holds.each (word_at plan es b call) of_line

  -- the operation that decides the call makes of the words' numbers those after it
  pub changed : (words : List ℕ) (m : ℕ) → HoldNumbers plan es words
      → m ≡ number_after plan (then_called plan es b call) (word_at plan es b call)
      → HoldNumbers plan (then_called plan es b call)
      (set words (word_place (length plan.boxes) (word_at plan es b call)) m)
  changed words m holds made = record {
    count = length-set words (word_place (length plan.boxes) w) m ∙ holds.count;
    each = λ v is. by v is (eqb_tells (word_place (length plan.boxes) v) (word_place (length plan.boxes) w));
  }
    where
      w : Word
      w = word_at plan es b call

      here_too : (v : Word) → v ≡ w → get_or (set words (word_place (length plan.boxes) w) m)
          (word_place (length plan.boxes) v) 0 ≡ number_after plan (then_called plan es b call) v
      here_too v e = subst (λ (x : Word). get_or (set words (word_place (length plan.boxes) w) m)
          (word_place (length plan.boxes) x) 0 ≡ number_after plan (then_called plan es b call) x) (sym e)
          (get_or-set_same words (word_place (length plan.boxes) w) m 0 (within words holds) ∙ made)

      by : (v : Word) → IsWordOf (length plan.boxes) v
          → (((word_place (length plan.boxes) v == word_place (length plan.boxes) w) ≡ true)
          × (word_place (length plan.boxes) v ≡ word_place (length plan.boxes) w))
          ⊎ (((word_place (length plan.boxes) v == word_place (length plan.boxes) w) ≡ false)
          × (word_place (length plan.boxes) v ≢ word_place (length plan.boxes) w))
          → get_or (set words (word_place (length plan.boxes) w) m) (word_place (length plan.boxes) v) 0
          ≡ number_after plan (then_called plan es b call) v
      by v is (inl t) = here_too v (one_place (length plan.boxes) v w is of_line t.1)
      by v is (inr t) = get_or-set_other words (word_place (length plan.boxes) w) (word_place (length plan.boxes) v) m 0
          t.1 ∙ (holds.each v is ∙ sym (moves.others v (λ e. t.1 (ap (word_place (length plan.boxes)) e))))

  -- the law's reply and box, by what the desk has told
  answered : (reply : Reply) (after : BoxState)
      → IsTold PairState (on_pair (way_of (link_of (box_plan_of plan b) call.act))
      (decide plan (box_plan_of plan b) call.act (here_at plan es b call))
      (pair_at (state_of plan es) (pair_of plan b call))) reply after
      → (reply ≡ (step plan (state_of plan es) b call).reply)
      × (after ≡ box_at (state_of plan (then_called plan es b call)) b)
  unfolding step
  answered reply after told =
      let places = has_places plan (state_of plan es) b call ready.is_plan (history_states plan es) ready.may.known in (
        sym told.reply_is,
        sym (ap (λ (s : LineState). box_at s b) (state_grows plan es (entry_of plan (state_of plan es) b call))
            ∙ (get_or-set_same (state_of plan es).boxes b _ no_state places.box ∙ told.here_is)),
      )

  desk_done : (old new : DeskFields) (after : BoxState) → IsDeskOf plan b old → old.calls ≤ length es
      → new ≡ record old { here = after; calls = old.calls + 1 }
      → after ≡ box_at (state_of plan (then_called plan es b call)) b
      → IsDeskAfter plan (then_called plan es b call) b new
  desk_done old new after of few is there =
      let sum = length-append es (entry_of plan (state_of plan es) b call ∷ []) in
      subst (λ (x : DeskFields). IsDeskAfter plan (then_called plan es b call) b x) (sym is)
      (record {
        desk_of = stays_desk plan b old after (old.calls + 1) of;
        here = there;
        calls = omega (arith, sum, few);
      })

  -- a call that is decided in its box alone
  pub local_done : (old new : DeskFields) (reply : Reply) (words : List ℕ) (i m : ℕ)
      → IsDeskAfter plan es b old → HoldNumbers plan es words
      → IsLocal (decide plan (box_plan_of plan b) call.act (here_at plan es b call)) (moved_to old call.moment) reply
      new
      → i ≡ word_place (length plan.boxes) (op_word b call.act ops.Local)
      → m ≡ get_or words i 0
      → IsDone plan es b call reply new (set words i (word_after ops.Local m))
  local_done old new reply words i m desk holds local at met =
      let first : ops.Local ≡ first_op plan (box_plan_of plan b) call.act (here_at plan es b call) =
      sym (ap (λ (d : Decision). first_on (kind_of d)
      (first_by (box_plan_of plan b) call.act (here_at plan es b call))) local.decided) in
      let place : i ≡ word_place (length plan.boxes) (word_at plan es b call) =
      at ∙ ap (word_place (length plan.boxes)) (first_same ops.Local first) in
      let number : m ≡ number_after plan es (word_at plan es b call) =
      met ∙ (ap (λ (j : ℕ). get_or words j 0) place ∙ found words holds) in
      let sure : AtFirst plan (box_plan_of plan b) call.act (here_at plan es b call)
      (number_after plan es (word_at plan es b call)) =
      subst (λ (d : Decision). FirstOn (kind_of d) (FirstDecides (box_plan_of plan b) call.act (here_at plan es b call)
      (number_after plan es (word_at plan es b call)))) (sym local.decided) tt in
      let made : word_after ops.Local m ≡ number_after plan (then_called plan es b call) (word_at plan es b call) =
      ap (word_after ops.Local) number ∙ (ap (λ (o : WordOp). word_after o
      (number_after plan es (word_at plan es b call))) first ∙ moves.first sure) in
      let told = answered reply local.after (local_told _ _ _ reply local.after local.decided) in
      record {
        reply_is = told.0;
        desk_after = desk_done (moved_to old call.moment) new local.after
            (stays_desk plan b old (at_moment old.here call.moment) old.calls desk.desk_of) desk.calls local.new_is
            told.1;
        words_hold = subst (λ (j : ℕ). HoldNumbers plan (then_called plan es b call)
            (set words j (word_after ops.Local m))) (sym place) (changed words (word_after ops.Local m) holds made);
      }

-- ---- a call that has asked for its word

module _ (plan : PlanFields) (es : List Entry) (b : ℕ) (desk : DeskFields) (ask : WordAsk)
    (asks : Asks plan es b desk ask) (boxes : ℕ) (wide : boxes ≡ length plan.boxes) (words : List ℕ)
    (holds : HoldNumbers plan es words) where
  first_is : ask.first ≡ first_op plan (box_plan_of plan b) ask.call.act (here_at plan es b ask.call)
  first_is = ap (λ (a : WordAsk). a.first) asks.asked.is_ask
      ∙ ap (λ (x : BoxState). first_op plan (box_plan_of plan b) ask.call.act x) asks.here

  second_is : (op : WordOp) → ask.second ≡ Some op
      → second_op plan (box_plan_of plan b) ask.call.act (here_at plan es b ask.call) ≡ Some op
  second_is op e = sym (ap (λ (a : WordAsk). a.second) asks.asked.is_ask
      ∙ ap (λ (x : BoxState). second_op plan (box_plan_of plan b) ask.call.act x) asks.here) ∙ e

  first_place : word_place boxes (op_word b ask.call.act ask.first)
      ≡ word_place (length plan.boxes) (word_at plan es b ask.call)
  first_place = ap (λ (n : ℕ). word_place n (op_word b ask.call.act ask.first)) wide
      ∙ ap (word_place (length plan.boxes)) (first_same plan es b ask.call asks.ready ask.first first_is)

  second_place : (op : WordOp) → ask.second ≡ Some op → word_place boxes (op_word b ask.call.act op)
      ≡ word_place (length plan.boxes) (word_at plan es b ask.call)
  second_place op e = ap (λ (n : ℕ). word_place n (op_word b ask.call.act op)) wide
      ∙ ap (word_place (length plan.boxes)) (second_same plan es b ask.call asks.ready op (second_is op e))

  pub first_within : word_place boxes (op_word b ask.call.act ask.first) < length words
  first_within = subst (λ (i : ℕ). i < length words) (sym first_place)
      (within plan es b ask.call asks.ready words holds)

  pub first_met : (m : ℕ) → m ≡ get_or words (word_place boxes (op_word b ask.call.act ask.first)) 0
      → m ≡ number_after plan es (word_at plan es b ask.call)
  first_met m met = met ∙ (ap (λ (i : ℕ). get_or words i 0) first_place
      ∙ found plan es b ask.call asks.ready words holds)

  -- the first operation decides
  pub first_done : (m : ℕ) → m ≡ get_or words (word_place boxes (op_word b ask.call.act ask.first)) 0
      → IsNotDue ask.second (met_by desk.box_plan ask.call.act desk.here m)
      → IsOperated plan es b ask.call m
      (set words (word_place boxes (op_word b ask.call.act ask.first)) (word_after ask.first m))
  first_done m at due =
      let number = first_met m at in
      let due_there : IsNotDue (second_op plan (box_plan_of plan b) ask.call.act (here_at plan es b ask.call))
      (met_by (box_plan_of plan b) ask.call.act (here_at plan es b ask.call) m) =
      subst (λ (x : BoxState). IsNotDue (second_op plan (box_plan_of plan b) ask.call.act x)
      (met_by (box_plan_of plan b) ask.call.act x m)) asks.here
      (subst (λ (x : BoxFields). IsNotDue (second_op plan (box_plan_of plan b) ask.call.act desk.here)
      (met_by x ask.call.act desk.here m)) asks.asked.desk_of.box_plan
      (subst (λ (o : Option WordOp). IsNotDue o (met_by desk.box_plan ask.call.act desk.here m))
      (ap (λ (a : WordAsk). a.second) asks.asked.is_ask) due)) in
      let sure : AtFirst plan (box_plan_of plan b) ask.call.act (here_at plan es b ask.call)
      (number_after plan es (word_at plan es b ask.call)) =
      subst (λ (n : ℕ). AtFirst plan (box_plan_of plan b) ask.call.act (here_at plan es b ask.call) n) number
      (first_decides_it plan (box_plan_of plan b) ask.call.act (here_at plan es b ask.call) _ m
      (outcome plan es b ask.call asks.ready) due_there) in
      let made : word_after ask.first m ≡ number_after plan (then_called plan es b ask.call)
      (word_at plan es b ask.call) =
      ap (word_after ask.first) number ∙ (ap (λ (o : WordOp). word_after o
      (number_after plan es (word_at plan es b ask.call))) first_is
      ∙ (moves plan es b ask.call asks.ready).first sure) in
      record {
        met_is = number;
        words_hold = subst (λ (j : ℕ). HoldNumbers plan (then_called plan es b ask.call)
            (set words j (word_after ask.first m))) (sym first_place)
            (changed plan es b ask.call asks.ready words (word_after ask.first m) holds made);
      }

  -- the word agrees with the desk
  pub meets : (m : ℕ) → m ≡ number_after plan es (word_at plan es b ask.call)
      → WordMeets plan b desk ask m
  meets m number =
      let on : IsOnWord (kind_at plan (state_of plan es) b ask.call) = subst (λ (x : BoxState). IsOnWord
      (kind_of (decide plan (box_plan_of plan b) ask.call.act x))) asks.here asks.asked.on_word in
      let there : NumberAgrees (kind_at plan (state_of plan es) b ask.call) (link_of (box_plan_of plan b) ask.call.act)
      (here_at plan es b ask.call) m = subst (λ (n : ℕ). NumberAgrees (kind_at plan (state_of plan es) b ask.call)
      (link_of (box_plan_of plan b) ask.call.act) (here_at plan es b ask.call) n)
      (sym (number ∙ ap (number_after plan es) (word_is plan es b ask.call asks.ready)))
      (met_number plan es b ask.call asks.ready.is_plan asks.ready.legal asks.ready.few asks.ready.may.known on) in
      subst (λ (x : BoxState). NumberAgrees (kind_of (decide plan (box_plan_of plan b) ask.call.act x))
      (link_of (box_plan_of plan b) ask.call.act) x m) (sym asks.here) there

  pub few : desk.calls < 2 ^ 32
  few = let c = asks.calls in let n = asks.ready.few in omega (arith, c, n)

  -- the desk finishes the call by the number of its word
  pub finish_done : (m : ℕ) (reply : Reply) (new : DeskFields) (after : List ℕ)
      → IsOperated plan es b ask.call m after
      → Finishes (decide plan (box_plan_of plan b) ask.call.act desk.here) (link_of (box_plan_of plan b) ask.call.act)
      desk.here m reply new.here
      → new ≡ record desk { here = new.here; calls = desk.calls + 1 }
      → IsDone plan es b ask.call reply new after
  finish_done m reply new after operated finishes kept =
      let ready = asks.ready in
      let on : IsOnWord (kind_at plan (state_of plan es) b ask.call) = subst (λ (x : BoxState). IsOnWord
      (kind_of (decide plan (box_plan_of plan b) ask.call.act x))) asks.here asks.asked.on_word in
      let finishes_there : Finishes (decide plan (box_plan_of plan b) ask.call.act (here_at plan es b ask.call))
      (link_of (box_plan_of plan b) ask.call.act) (here_at plan es b ask.call) m reply new.here =
      subst (λ (x : BoxState). Finishes (decide plan (box_plan_of plan b) ask.call.act x)
      (link_of (box_plan_of plan b) ask.call.act) x m reply new.here) asks.here finishes in
      let number : number_at (kind_at plan (state_of plan es) b ask.call)
      (way_of (link_of (box_plan_of plan b) ask.call.act)) (pair_at (state_of plan es) (pair_of plan b ask.call)) ≡ m =
      sym (operated.met_is ∙ (ap (number_after plan es) (word_is plan es b ask.call ready)
      ∙ named_number plan es (kind_at plan (state_of plan es) b ask.call) b (pair_of plan b ask.call)
      (way_of (link_of (box_plan_of plan b) ask.call.act)) on)) in
      let told = answered plan es b ask.call ready reply new.here (finishes_there
      (pair_at (state_of plan es) (pair_of plan b ask.call))
      (met_agrees plan es b ask.call ready.is_plan ready.legal ready.few ready.may.known) number) in
      record {
        reply_is = told.0;
        desk_after = desk_done plan es b ask.call ready desk new new.here asks.asked.desk_of asks.calls kept told.1;
        words_hold = operated.words_hold;
      }

module _ (plan : PlanFields) (es : List Entry) (b : ℕ) (desk : DeskFields) (ask : WordAsk)
    (asks : Asks plan es b desk ask) (boxes : ℕ) (wide : boxes ≡ length plan.boxes) (words : List ℕ)
    (holds : HoldNumbers plan es words) (op : WordOp) (due : ask.second ≡ Some op) (m : ℕ)
    (at : m ≡ get_or words (word_place boxes (op_word b ask.call.act ask.first)) 0)
    (after : List ℕ)
    (made : after ≡ set words (word_place boxes (op_word b ask.call.act ask.first)) (word_after ask.first m)) where
  -- the look before a second operation has changed nothing
  pub looked : HoldNumbers plan es after
  looked =
      let i : ℕ = word_place boxes (op_word b ask.call.act ask.first) in
      let then_op = second_is plan es b desk ask asks boxes wide words holds op due in
      let stays : word_after ask.first m ≡ m = ap (λ (o : WordOp). word_after o m)
      (first_is plan es b desk ask asks boxes wide words holds)
      ∙ first_looks (kind_of (decide plan (box_plan_of plan b) ask.call.act (here_at plan es b ask.call)))
      (box_plan_of plan b) ask.call.act (here_at plan es b ask.call) m op then_op in
      let same : after ≡ words = made ∙ (ap (set words (word_place boxes (op_word b ask.call.act ask.first)))
      (stays ∙ at) ∙ set-get_or words (word_place boxes (op_word b ask.call.act ask.first)) 0) in
      subst (HoldNumbers plan es) (sym same) holds

  pub second_within : word_place boxes (op_word b ask.call.act op) < length after
  second_within = subst (λ (i : ℕ). i < length after)
      (sym (second_place plan es b desk ask asks boxes wide words holds op due))
      (within plan es b ask.call asks.ready after looked)

  pub second_done : (met : ℕ) → met ≡ get_or after (word_place boxes (op_word b ask.call.act op)) 0
      → met_by desk.box_plan ask.call.act desk.here m ≡ true
      → IsOperated plan es b ask.call met
      (set after (word_place boxes (op_word b ask.call.act op)) (word_after op met))
  second_done met there seen =
      let place = second_place plan es b desk ask asks boxes wide words holds op due in
      let number : met ≡ number_after plan es (word_at plan es b ask.call) =
      there ∙ (ap (λ (i : ℕ). get_or after i 0) place ∙ found plan es b ask.call asks.ready after looked) in
      let shown : m ≡ number_after plan es (word_at plan es b ask.call) =
      first_met plan es b desk ask asks boxes wide words holds m at in
      let then_op = second_is plan es b desk ask asks boxes wide words holds op due in
      let seen_there : met_by (box_plan_of plan b) ask.call.act (here_at plan es b ask.call) m ≡ true =
      subst (λ (x : BoxState). met_by (box_plan_of plan b) ask.call.act x m ≡ true) asks.here
      (subst (λ (x : BoxFields). met_by x ask.call.act desk.here m ≡ true) asks.asked.desk_of.box_plan seen) in
      let sure : AtSecond plan (box_plan_of plan b) ask.call.act (here_at plan es b ask.call)
      (number_after plan es (word_at plan es b ask.call)) =
      subst (λ (n : ℕ). AtSecond plan (box_plan_of plan b) ask.call.act (here_at plan es b ask.call) n) shown
      (second_decides_it (box_plan_of plan b) ask.call.act (here_at plan es b ask.call)
      (kind_of (decide plan (box_plan_of plan b) ask.call.act (here_at plan es b ask.call))) m op then_op seen_there) in
      let result : word_after op met ≡ number_after plan (then_called plan es b ask.call)
      (word_at plan es b ask.call) =
      ap (word_after op) number ∙ (moves plan es b ask.call asks.ready).second op then_op sure in
      record {
        met_is = number;
        words_hold = subst (λ (j : ℕ). HoldNumbers plan (then_called plan es b ask.call)
            (set after j (word_after op met))) (sym place)
            (changed plan es b ask.call asks.ready after (word_after op met) looked result);
      }

-- ---- a call from the first step on

-- what was asked
pub asks_of : (plan : PlanFields) (es : List Entry) (b : ℕ) (call : Call) (old new : DeskFields) (told : Step)
    (ask : WordAsk)
    → IsReady plan es b call → IsDeskAfter plan es b old
    → Answers (decide plan (box_plan_of plan b) call.act (at_moment old.here call.moment))
    (ask_of plan (box_plan_of plan b) call (at_moment old.here call.moment)) (moved_to old call.moment) told new
    → told ≡ NeedsWord ask → (ask.call ≡ call) × Asks plan es b new ask
asks_of plan es b call old new told ask ready desk h e =
    let w = word_answer _ _ ask _ told new h e in (
      ap (λ (a : WordAsk). a.call) w.ask_is,
      subst (λ (a : WordAsk). Asks plan es b new a) (sym w.ask_is)
          (subst (λ (d : DeskFields). Asks plan es b d
          (ask_of plan (box_plan_of plan b) call (at_moment old.here call.moment))) (sym w.new_is)
          (record {
            ready = ready;
            asked = record {
              desk_of = stays_desk plan b old (at_moment old.here call.moment) old.calls desk.desk_of;
              known = ready.may.known;
              moment = refl;
              on_word = w.on_word;
              is_ask = refl;
            };
            here = ap (λ (x : BoxState). at_moment x call.moment) desk.here;
            calls = desk.calls;
          })),
    )

-- where a desk's first step answers, the call is decided in the box alone, the reply is the law's, and the call is
-- counted
pub local_of : (plan : PlanFields) (es : List Entry) (b : ℕ) (call : Call) (old new : DeskFields) (told : Step)
    (reply : Reply)
    → IsDeskAfter plan es b old
    → Answers (decide plan (box_plan_of plan b) call.act (at_moment old.here call.moment))
    (ask_of plan (box_plan_of plan b) call (at_moment old.here call.moment)) (moved_to old call.moment) told new
    → told ≡ Local reply
    → IsLocal (decide plan (box_plan_of plan b) call.act (here_at plan es b call)) (moved_to old call.moment) reply new
local_of plan es b call old new told reply desk h e =
    subst (λ (x : BoxState). IsLocal (decide plan (box_plan_of plan b) call.act (at_moment x call.moment))
    (moved_to old call.moment) reply new) desk.here (local_answer _ _ _ told new reply h e)
