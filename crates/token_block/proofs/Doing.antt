-- The operations of calls keep the rule.
use Rattle.std.proofs.Common.{◌≡◌, ℕ, ◌+◌, ◌%◌, ◌^◌, ◌<◌, ◌≤◌, ◌==◌, Bool, true, false, cond}
use Rattle.std.proofs.Common.{length, get_or, Option, Some, None, sym, refl, ap, ◌∙◌, subst, arith}
use Rattle.std.proofs.Math.Nat.{mod-eq_of_lt}
use mathlib.Core.Option.{none}
use prog.Atomic.{either}
use Rattle.atomic_table.specs.Table.{Act, Step, Valid, carried_after, keeps, step, stepped, Allows}
use Rattle.token_law.specs.declared.calls.Shown.{Shown}
use Rattle.token_law.specs.declared.calls.Shown.TheVariants.{Idle, Leave, Held, OnLine}
use Rattle.token_law.specs.declared.calls.TokenAct.{TokenAct}
use Rattle.token_law.specs.declared.calls.TokenAct.TheVariants as acts
use Rattle.token_law.specs.History.{token_part_of}
use Rattle.token_law.specs.Law.{NamesTrain, token_step}
use Rattle.token_law.specs.States.{TokenState, tokens_at}
use Rattle.token_law.proofs.Histories.{token_history_grows}
use Rattle.token_block.specs.declared.view.Tokens.{Tokens}
use Rattle.token_block.specs.declared.view.TokenView.{TokenView}
use Rattle.token_block.specs.declared.words.TokenOp.{TokenOp}
use Rattle.token_block.specs.declared.words.TokenOp.TheVariants as ops
use Rattle.token_block.specs.Rule.{Fits, IsHistoryOf, Kept, Marks, most_box_calls, shown_after}
use Rattle.token_block.specs.Steps.{MayStep, Sits, Stepped, call_by, done, entry_after, found_coming, op_by, op_of}
use Rattle.token_block.specs.Steps.{op_word, state_after, view_after, with_call, word_after}
use Rattle.token_block.specs.Words.{IsLineWord, IsShown, LineWord, TallyOf, TokenShown, number_after, place_of}
use Rattle.token_block.specs.Words.{token_word}
use Rattle.token_block.proofs.Changes.{FitsWord, Grown, coming_is, comes_out, own_tokens, shown_then, state_grows}
use Rattle.token_block.proofs.Changes.{tally_short, words_grow}
use Rattle.token_block.proofs.Keeps.{Grows, M, St, extends, finds, place_within}
use Rattle.token_block.proofs.Parts.{Es}

-- ---- numbers

-- the numbers of the words are small
word_small : (shown : Shown) → IsShown shown → token_word shown ≤ 4000000000
word_small Idle h = omega arith
word_small (Leave to) h = omega (arith, h)
word_small (Held at train) h = let a = h.0 in let t = h.2 in omega (arith, a, t)
word_small (OnLine to train) h = let t = h.2 in omega (arith, t)

number_small : (tokens : Tokens) (log : Es) (w : LineWord) → IsShown (shown_after tokens log)
    → ((b : ℕ) → length (token_part_of b log) ≤ most_box_calls) → number_after tokens log w ≤ 4000000000
number_small tokens log (TallyOf b) is short = let a = tally_short b log in let m = short b in omega (arith, a, m)
number_small tokens log TokenShown is short = word_small (shown_after tokens log) is

-- the word of an operation is one of the line
op_in_line : (b : ℕ) (op : TokenOp) → b < 2 → IsLineWord (op_word b op)
op_in_line b ops.Count h = h
op_in_line b (ops.Change from to) h = tt
op_in_line b (ops.Move to) h = tt
op_in_line b ops.Look h = tt

-- the marks of a seat that holds a post
marks_of : (shown : Shown) (post : Option ℕ) (b : ℕ) (hand came : Option ℕ) → post ≡ Some b
    → Marks shown post hand came → Marks shown (Some b) hand came
marks_of shown post b hand came has h = subst (λ (p : Option ℕ). Marks shown p hand came) has h

fits_word : (tokens : Tokens) (b : ℕ) (act : TokenAct) (v : TokenView) → MayStep tokens b act v → FitsWord act
fits_word tokens b act v may train e = (subst NamesTrain e may.train, may.small train e)

-- ---- one operation for a call

module _ (tokens : Tokens) (slots id : ℕ) (me : M) (b : ℕ) (act : TokenAct) (sits : Sits tokens me.0)
    (may : MayStep tokens b act me.0) (s : St) (k : Kept tokens s)
    (fit : Fits tokens k.log (get_or s.words 0 0) me.0) where
  op : TokenOp
  op = op_by tokens b act me.0

  marks : Marks (shown_after tokens k.log) (Some b) me.0.hand me.0.came
  marks = marks_of (shown_after tokens k.log) me.0.post b me.0.hand me.0.came may.holds fit.marks

  own : token_part_of b k.log ≡ token_part_of b me.0.seen
  own = fit.seen.own b may.holds

  legal_then : IsHistoryOf tokens (with_call tokens k.log b act)
  legal_then = token_history_grows tokens.at_0 tokens.at_1 k.log (call_by b act) k.legal
      (record { box = may.box; train = may.train })

  shown_next : IsShown (shown_after tokens (with_call tokens k.log b act))
  shown_next = subst (λ (st : TokenState). IsShown st.shown)
      (sym (state_grows tokens k.log (entry_after tokens k.log b act)))
      (shown_then (state_after tokens k.log) b act (token_step (state_after tokens k.log) b act) may.box k.shown
      (fits_word tokens b act me.0 may) (comes_out tokens k.log b act k.legal may.box))

  grown_words : found_coming b act me.0.came (shown_after tokens k.log) ≡ None
      → Grown tokens k.log b act (op_by tokens b act me.0)
  grown_words no_train = words_grow tokens k.log b act me.0.hand me.0.came
      (tokens_at (state_after tokens me.0.seen) b) k.legal may.box
      (sym (own_tokens tokens b me.0.seen k.log may.box fit.seen.begins k.legal own)) marks.0 marks.1 no_train

  grows : found_coming b act me.0.came (shown_after tokens k.log) ≡ None
      → Grows tokens k.log b act (op_word b (op_by tokens b act me.0))
      (word_after (op_by tokens b act me.0) (number_after tokens k.log (op_word b (op_by tokens b act me.0))))
  grows no_train = let g = grown_words no_train in record {
    legal = legal_then;
    is_word = op_in_line b (op_by tokens b act me.0) may.box;
    here = g.here;
    others = g.others;
    few = subst (λ (es : Es). length es < most_box_calls) (sym own) may.spare;
    shown = shown_next;
  }

  stepped_with : (n : ℕ) (w : TokenView) (d : Option ℕ) → found_coming b act me.0.came (shown_after tokens k.log) ≡ d
      → n ≡ number_after tokens k.log (op_word b (op_by tokens b act me.0))
      → w ≡ view_after tokens b act me.0 k.log d → Stepped tokens b act me.0 n w
  stepped_with n w d is found now = record {
    log = k.log;
    begins = fit.seen.begins;
    own = own;
    legal = k.legal;
    shown = k.shown;
    hand = marks.0;
    came = marks.1;
    found = found;
    now = now ∙ ap (view_after tokens b act me.0 k.log) (sym is);
  }

module _ (tokens : Tokens) where
  -- an operation for a call keeps the rule
  pub does : (slots id : ℕ) (me : M) (b : ℕ) (act : TokenAct) (i : ℕ) (change : ℕ → ℕ) (st : Step (Unit {0}))
      → Sits tokens me.0 → MayStep tokens b act me.0 → i ≡ place_of (op_word b (op_by tokens b act me.0))
      → ((n : ℕ) → n ≤ 4000000000 → word_after (op_by tokens b act me.0) n ≡ change n)
      → Allows (Kept tokens) slots id me i change (done tokens b act st me)
  does slots id me b act i change st sits may place same =
      subst (λ (j : ℕ). Allows (Kept tokens) slots id me j change (done tokens b act st me)) (sym place) there
    where
      there : Allows (Kept tokens) slots id me (place_of (op_word b (op_by tokens b act me.0))) change
          (done tokens b act st me)
      there s k wide at small = by (found_coming b act me.0.came (shown_after tokens k.log)) refl
        where
          w : LineWord
          w = op_word b (op_by tokens b act me.0)

          n : ℕ
          n = get_or s.words (place_of (op_word b (op_by tokens b act me.0))) 0

          fit : Fits tokens k.log (get_or s.words 0 0) me.0
          fit = k.fits id me.0 at

          found : get_or s.words (place_of (op_word b (op_by tokens b act me.0))) 0
              ≡ number_after tokens k.log (op_word b (op_by tokens b act me.0))
          found = k.packed (op_word b (op_by tokens b act me.0)) (op_in_line b (op_by tokens b act me.0) may.box)

          few : get_or s.words (place_of (op_word b (op_by tokens b act me.0))) 0 ≤ 4000000000
          few = subst (λ (m : ℕ). m ≤ 4000000000) (sym found)
              (number_small tokens k.log (op_word b (op_by tokens b act me.0)) k.shown k.short)

          by : (d : Option ℕ) → found_coming b act me.0.came (shown_after tokens k.log) ≡ d
              → (x : TokenView) × (a : Act (Unit {0})) × Valid s.homes me.1 a
              × Kept tokens (stepped s (place_of (op_word b (op_by tokens b act me.0)))
              (change (get_or s.words (place_of (op_word b (op_by tokens b act me.0))) 0)) id me.1 x a)
              × ((carried_after me.1 a ≡ me.1)
              × Stepped tokens b act me.0 (get_or s.words (place_of (op_word b (op_by tokens b act me.0))) 0) x)
          by None h =
              let x : TokenView = view_after tokens b act me.0 k.log None in
              let next : word_after (op_by tokens b act me.0)
              (number_after tokens k.log (op_word b (op_by tokens b act me.0)))
              ≡ change (get_or s.words (place_of (op_word b (op_by tokens b act me.0))) 0) =
              ap (word_after (op_by tokens b act me.0)) (sym found) ∙ same _ few in (
                x,
                keeps,
                tt,
                subst (λ (m : ℕ). Kept tokens
                    (stepped s (place_of (op_word b (op_by tokens b act me.0))) m id me.1 x keeps)) next
                    (extends tokens s k id me.0 b act (op_word b (op_by tokens b act me.0)) _ me.1 at sits.0 may.holds
                    (grows tokens slots id me b act sits may s k fit h)),
                (refl, stepped_with tokens slots id me b act sits may s k fit _ x None h found refl),
              )
          by (Some train) h =
              let is = coming_is b act me.0.came (shown_after tokens k.log) train h in
              let looks : op_by tokens b act me.0 ≡ ops.Look =
              ap (λ (a : TokenAct). op_of b a (tokens_at (state_after tokens me.0.seen) b) me.0.hand me.0.came) is.0 ∙
              ap (λ (c : Option ℕ). op_of b acts.Arrive (tokens_at (state_after tokens me.0.seen) b) me.0.hand c)
              is.1 in
              let x : TokenView = view_after tokens b act me.0 k.log (Some train) in
              let next : get_or s.words (place_of (op_word b (op_by tokens b act me.0))) 0
              ≡ change (get_or s.words (place_of (op_word b (op_by tokens b act me.0))) 0) =
              sym (ap (λ (o : TokenOp). word_after o
              (get_or s.words (place_of (op_word b (op_by tokens b act me.0))) 0)) looks) ∙ same _ few in
              let m = marks tokens slots id me b act sits may s k fit in (
                x,
                keeps,
                tt,
                subst (λ (z : ℕ). Kept tokens
                    (stepped s (place_of (op_word b (op_by tokens b act me.0))) z id me.1 x keeps)) next
                    (finds tokens s k id me.0 b train (place_of (op_word b (op_by tokens b act me.0))) me.1 at sits.0
                    may.holds m.0 is.2),
                (refl, stepped_with tokens slots id me b act sits may s k fit _ x (Some train) h found refl),
              )

-- an operation at the line's own tokens and at the place that the program computed
pub hands : (p q : Tokens) (words slots id : ℕ) (me : M) (b box_no : ℕ) (act : TokenAct) (op : TokenOp) (i : ℕ)
    (change : ℕ → ℕ) (st : Step (Unit {0}))
    → p ≡ q → b ≡ box_no → words ≡ 4 → Sits p me.0 → MayStep p b act me.0 → op ≡ op_by p b act me.0
    → i ≡ place_of (op_word box_no op) → ((n : ℕ) → n ≤ 4000000000 → word_after op n ≡ change n)
    → (i < words) × Allows (Kept q) slots id me i change (done p b act st me)
hands p q words slots id me b box_no act op i change st same whose wide sits may is place changes =
    let place' : i ≡ place_of (op_word b (op_by p b act me.0)) =
    place ∙ (ap (λ (x : ℕ). place_of (op_word x op)) (sym whose) ∙ ap (λ (o : TokenOp). place_of (op_word b o)) is) in
    let allows = does p slots id me b act i change st sits may place'
    (λ n few. ap (λ (o : TokenOp). word_after o n) (sym is) ∙ changes n few) in
    let within = (place_within (op_word b (op_by p b act me.0)) (op_in_line b (op_by p b act me.0) may.box)).1 in (
      subst (λ (z : ℕ). i < z) (sym wide) (subst (λ (z : ℕ). z < 4) (sym place') within),
      subst (λ (z : Tokens). Allows (Kept z) slots id me i change (done p b act st me)) same allows,
    )

-- these plays read no step
abbrev pub no_step : Step (Unit {0})
no_step = step 0 0 0 0 none

-- one more, in a word of 64 bits
pub counted : (n : ℕ) → n ≤ 4000000000 → n + 1 ≡ (n + 1) % 2 ^ 64
counted n h = sym (mod-eq_of_lt (omega (arith, h)))

-- a change that hangs on a test leaves the new word where the test holds, and else the old one
pub by_either : (t : Bool) (new n : ℕ) → cond t new n ≡ either t new n
by_either true new n = refl
by_either false new n = refl

-- a word that is changed, by the two numbers of a change
abbrev pub word_by : ℕ → ℕ → ℕ → ℕ
word_by n from to = cond (n == from) to n
