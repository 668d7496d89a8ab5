-- What a call changes: its own box, the other box, and the words.
use Rattle.std.proofs.Common.{◌≡◌, ◌≢◌, ℕ, ◌+◌, ◌-◌, ◌<◌, ◌≤◌, ◌==◌, Bool, true, false, cond, ◌&&◌, ◌⊎◌, inl, inr}
use Rattle.std.proofs.Common.{[], ◌∷◌, ◌++◌, length, Option, Some, None, sym, refl, ap, ◌∙◌, subst, arith}
use mathlib.Core.List.{IsPrefix}
use Rattle.std.proofs.lemmas.List.Sums.{sum_by-cons, sum_by_push}
use Rattle.token_law.specs.declared.calls.Shown.{Shown}
use Rattle.token_law.specs.declared.calls.Shown.TheVariants.{Idle, Leave, Held, OnLine}
use Rattle.token_law.specs.declared.calls.TokenAct.{TokenAct}
use Rattle.token_law.specs.declared.calls.TokenAct.TheVariants as acts
use Rattle.token_law.specs.declared.calls.TokenEntry.{TokenEntry}
use Rattle.token_law.specs.History.{IsTokenHistoryFrom, after_token_entry, token_part_of, tokens_after}
use Rattle.token_law.specs.Law.{IsTokenCall, NamesTrain, TokenTold, other_end, token_step}
use Rattle.token_law.specs.States.{TokenState, opening_tokens, tokens_at, with_tokens}
use Rattle.token_law.proofs.Histories.{token_entry_determined, token_prefix_legal, token_state_grows}
use Rattle.token_block.specs.declared.words.TokenOp.{TokenOp}
use Rattle.token_block.specs.declared.words.TokenOp.TheVariants as ops
use Rattle.token_block.specs.declared.view.Tokens.{Tokens}
use Rattle.token_block.specs.Men.{hand_then, tokens_then}
use Rattle.token_block.specs.Rule.{IsHistoryOf, held_at, shown_after}
use Rattle.token_block.specs.Steps.{bound_for, entry_after, found_coming, move_op, op_of, op_word}
use Rattle.token_block.specs.Steps.{state_after, with_call, word_after}
use Rattle.token_block.specs.Words.{IsShown, LineWord, TallyOf, TokenShown, is_own_refusal, number_after, tally_of}
use Rattle.token_block.specs.Words.{token_word}
use Rattle.token_block.proofs.Outcomes.{Arrives, Came, Departs, Draws, Gives, Outcome, Own, Replaces, Sound, Stays}
use Rattle.token_block.proofs.Outcomes.{Withdraws, changes, outcome_of}
use Rattle.token_block.proofs.Parts.{Es, OthersKeep, eqb_differ, eqb_no, eqb_same, eqb_yes, if_no, if_yes, stands}

-- ---- the tokens in an instrument, and what is shown

with_shown : (b count : ℕ) (st : TokenState) → (with_tokens st b count).shown ≡ st.shown
with_shown b count st = go (b == 0) where
  go : (first : Bool) → (cond first (record st { at_0 = count }) (record st { at_1 = count })).shown ≡ st.shown
  go true = refl
  go false = refl

with_own : (b count : ℕ) (st : TokenState) → tokens_at (with_tokens st b count) b ≡ count
with_own b count st = go (b == 0) where
  go : (first : Bool) → cond first (cond first (record st { at_0 = count }) (record st { at_1 = count })).at_0
      (cond first (record st { at_0 = count }) (record st { at_1 = count })).at_1 ≡ count
  go true = refl
  go false = refl

with_other : (b p count : ℕ) (st : TokenState) → b < 2 → p < 2 → p ≢ b
    → tokens_at (with_tokens st b count) p ≡ tokens_at st p
with_other b p count st h k ne = go (b == 0) (p == 0) refl refl where
  go : (t u : Bool) → (b == 0) ≡ t → (p == 0) ≡ u → cond u (cond t (record st { at_0 = count })
      (record st { at_1 = count })).at_0 (cond t (record st { at_0 = count }) (record st { at_1 = count })).at_1
      ≡ cond u st.at_0 st.at_1
  go true true e f = absurd (ne (eqb_same p 0 f ∙ sym (eqb_same b 0 e)))
  go true false e f = refl
  go false true e f = refl
  go false false e f = let x = eqb_differ b 0 e in let y = eqb_differ p 0 f in absurd (omega (arith, h, k, ne, x, y))

held_own : (b train : ℕ) → held_at b (Held b train) ≡ Some train
held_own b train = if_yes (b == b) (Some train) None (eqb_yes b b refl)

held_other : (b p train : ℕ) → p ≢ b → held_at p (Held b train) ≡ None
held_other b p train ne = if_no (b == p) (Some train) None (eqb_no b p (λ e. ne (sym e)))

-- ---- what a call does to the other box

module _ (st : TokenState) (b p : ℕ) (ne : p ≢ b) where
  pub keeps_hand : (act : TokenAct) (told : TokenTold) → Outcome st b act told
      → held_at p told.after.shown ≡ held_at p st.shown
  keeps_hand act told (Own a reply refused own count plain) = refl
  keeps_hand act told (Stays a reply own still plain) = refl
  keeps_hand act told (Gives e) = sym (ap (held_at p) e)
  keeps_hand act told (Withdraws e) = sym (ap (held_at p) e)
  keeps_hand act told (Draws train some e) = ap (held_at p)
      (with_shown b (tokens_at st b - 1) (record st { shown = Held b train })) ∙
      (held_other b p train ne ∙ sym (ap (held_at p) e))
  keeps_hand act told (Departs train e) = sym (ap (held_at p) e ∙ held_other b p train ne)
  keeps_hand act told (Arrives train e) = held_other b p train ne ∙ sym (ap (held_at p) e)
  keeps_hand act told (Replaces train e) = ap (held_at p)
      (with_shown b (tokens_at st b + 1) (record st { shown = Idle })) ∙
      sym (ap (held_at p) e ∙ held_other b p train ne)

  pub keeps_coming : (act : TokenAct) (told : TokenTold) (t : ℕ) → Outcome st b act told → st.shown ≡ OnLine p t
      → told.after.shown ≡ OnLine p t
  keeps_coming act told t (Own a reply refused own count plain) h = h
  keeps_coming act told t (Stays a reply own still plain) h = h
  keeps_coming act told t (Gives e) h = let bad = sym e ∙ h in absurd cc
  keeps_coming act told t (Withdraws e) h = let bad = sym e ∙ h in absurd cc
  keeps_coming act told t (Draws train some e) h = let bad = sym e ∙ h in absurd cc
  keeps_coming act told t (Departs train e) h = let bad = sym e ∙ h in absurd cc
  keeps_coming act told t (Arrives train e) h = let bad = sym e ∙ h in absurd (ne (cc))
  keeps_coming act told t (Replaces train e) h = let bad = sym e ∙ h in absurd cc

  pub keeps_tokens : (act : TokenAct) (told : TokenTold) → b < 2 → p < 2 → Outcome st b act told
      → tokens_at told.after p ≡ tokens_at st p
  keeps_tokens act told h k (Own a reply refused own count plain) = refl
  keeps_tokens act told h k (Stays a reply own still plain) = refl
  keeps_tokens act told h k (Gives e) = refl
  keeps_tokens act told h k (Withdraws e) = refl
  keeps_tokens act told h k (Draws train some e) =
      with_other b p (tokens_at st b - 1) (record st { shown = Held b train }) h k ne
  keeps_tokens act told h k (Departs train e) = refl
  keeps_tokens act told h k (Arrives train e) = refl
  keeps_tokens act told h k (Replaces train e) =
      with_other b p (tokens_at st b + 1) (record st { shown = Idle }) h k ne

-- ---- what it does to its own box, and to the words

-- a train that the act names has a number that fits the token word
abbrev pub FitsWord : TokenAct → Type 0
FitsWord act = (train : ℕ) → act ≡ acts.Draw train → (1 ≤ train) × (train < 65536)

-- the operation counts a refusal of the box's own instrument, which changes nothing; or it makes of the token word what
-- the line then shows
abbrev pub Changed : ℕ → TokenOp → TokenState → TokenTold → Type 0
Changed b op st told =
    ((op ≡ ops.Count) × (is_own_refusal told.reply ≡ true) × (told.after ≡ st))
    ⊎ ((op_word b op ≡ TokenShown) × (is_own_refusal told.reply ≡ false)
    × (token_word told.after.shown ≡ word_after op (token_word st.shown)))

module _ (st : TokenState) (b : ℕ) where
  pub shown_then : (act : TokenAct) (told : TokenTold) → b < 2 → IsShown st.shown → FitsWord act → Outcome st b act told
      → IsShown told.after.shown
  shown_then act told small is fits (Own a reply refused own count plain) = is
  shown_then act told small is fits (Stays a reply own still plain) = is
  shown_then act told small is fits (Gives e) = omega (arith, small)
  shown_then act told small is fits (Withdraws e) = tt
  shown_then act told small is fits (Draws train some e) = subst IsShown
      (sym (with_shown b (tokens_at st b - 1) (record st { shown = Held b train })))
      (small, (fits train refl).0, (fits train refl).1)
  shown_then act told small is fits (Departs train e) =
      let held = subst IsShown e is in (omega (arith, small), held.1, held.2)
  shown_then act told small is fits (Arrives train e) = let bound = subst IsShown e is in (small, bound.1, bound.2)
  shown_then act told small is fits (Replaces train e) = subst IsShown
      (sym (with_shown b (tokens_at st b + 1) (record st { shown = Idle }))) tt

  sound_then : (act : TokenAct) (told : TokenTold) → b < 2 → Sound st.shown → NamesTrain act → Outcome st b act told
      → Sound told.after.shown
  sound_then act told small is names (Own a reply refused own count plain) = is
  sound_then act told small is names (Stays a reply own still plain) = is
  sound_then act told small is names (Gives e) = omega (arith, small)
  sound_then act told small is names (Withdraws e) = tt
  sound_then act told small is names (Draws train some e) = subst Sound
      (sym (with_shown b (tokens_at st b - 1) (record st { shown = Held b train }))) (small, names)
  sound_then act told small is names (Departs train e) = let held = subst Sound e is in (omega (arith, small), held.1)
  sound_then act told small is names (Arrives train e) = let bound = subst Sound e is in (small, bound.1)
  sound_then act told small is names (Replaces train e) = subst Sound
      (sym (with_shown b (tokens_at st b + 1) (record st { shown = Idle }))) tt

  pub tokens_change : (act : TokenAct) (told : TokenTold) → Outcome st b act told
      → tokens_at told.after b ≡ tokens_then told.reply (tokens_at st b)
  tokens_change act told (Own a reply refused own count plain) = sym (plain.tokens (tokens_at st b))
  tokens_change act told (Stays a reply own still plain) = sym (plain.tokens (tokens_at st b))
  tokens_change act told (Gives e) = refl
  tokens_change act told (Withdraws e) = refl
  tokens_change act told (Draws train some e) =
      with_own b (tokens_at st b - 1) (record st { shown = Held b train })
  tokens_change act told (Departs train e) = refl
  tokens_change act told (Arrives train e) = refl
  tokens_change act told (Replaces train e) = with_own b (tokens_at st b + 1) (record st { shown = Idle })

  pub hand_changes : (act : TokenAct) (told : TokenTold) → Outcome st b act told
      → held_at b told.after.shown ≡ hand_then act told.reply (held_at b st.shown)
  hand_changes act told (Own a reply refused own count plain) = sym (plain.hand (held_at b st.shown))
  hand_changes act told (Stays a reply own still plain) = sym (plain.hand (held_at b st.shown))
  hand_changes act told (Gives e) = sym (ap (held_at b) e)
  hand_changes act told (Withdraws e) = sym (ap (held_at b) e)
  hand_changes act told (Draws train some e) = ap (held_at b)
      (with_shown b (tokens_at st b - 1) (record st { shown = Held b train })) ∙ held_own b train
  hand_changes act told (Departs train e) = refl
  hand_changes act told (Arrives train e) = held_own b train
  hand_changes act told (Replaces train e) = ap (held_at b)
      (with_shown b (tokens_at st b + 1) (record st { shown = Idle }))

  -- a move of the token that is in hand
  moves : (act : TokenAct) (told : TokenTold) (to : ℕ → Shown) (train : ℕ) (came : Option ℕ)
      → op_of b act (tokens_at st b) (held_at b st.shown) came ≡ move_op to (held_at b st.shown)
      → st.shown ≡ Held b train → is_own_refusal told.reply ≡ false → told.after.shown ≡ to train
      → Changed b (op_of b act (tokens_at st b) (held_at b st.shown) came) st told
  moves act told to train came is e own then =
      let op_is : op_of b act (tokens_at st b) (held_at b st.shown) came ≡ ops.Move (to train) =
      is ∙ ap (move_op to) (ap (held_at b) e ∙ held_own b train) in
      subst (λ (op : TokenOp). Changed b op st told) (sym op_is) (inr (refl, own, ap token_word then))

  pub word_changes : (act : TokenAct) (told : TokenTold) (came : Option ℕ) → Came b st.shown came
      → found_coming b act came st.shown ≡ None → Outcome st b act told
      → Changed b (op_of b act (tokens_at st b) (held_at b st.shown) came) st told
  word_changes act told came c none (Own a reply refused own count plain) = inl (count came, own, refl)
  word_changes act told came c none (Stays a reply own still plain) =
      inr ((still came c).0, own, sym (still came c).1)
  word_changes act told came c none (Gives e) =
      inr (refl, refl, sym (changes Idle (Leave (other_end b)) (token_word st.shown) (ap token_word e)))
  word_changes act told came c none (Withdraws e) =
      inr (refl, refl, sym (changes (Leave (other_end b)) Idle (token_word st.shown) (ap token_word e)))
  word_changes act told came c none (Draws train some e) = subst (λ (op : TokenOp). Changed b op st told)
      (sym (if_no (tokens_at st b == 0) ops.Count (ops.Change (Leave b) (Held b train)) some))
      (inr (
        refl,
        refl,
        ap token_word (with_shown b (tokens_at st b - 1) (record st { shown = Held b train })) ∙
            sym (changes (Leave b) (Held b train) (token_word st.shown) (ap token_word e)),
      ))
  word_changes act told came c none (Departs train e) =
      moves acts.Depart told (λ t. OnLine (other_end b) t) train came refl e refl refl
  word_changes act told None c none (Arrives train e) =
      let came_is : bound_for b st.shown ≡ Some train =
      ap (bound_for b) e ∙ if_yes (b == b) (Some train) None (eqb_yes b b refl) in
      let bad = sym none ∙ came_is in absurd cc
  word_changes act told (Some t) c none (Arrives train e) =
      let same : t ≡ train = let both = sym c ∙ e in (cc) in
      inr (refl, refl, ap (λ (x : ℕ). token_word (Held b x)) (sym same))
  word_changes act told came c none (Replaces train e) =
      moves acts.Replace told (λ t. Idle) train came refl e refl
      (with_shown b (tokens_at st b + 1) (record st { shown = Idle }))

-- a train is found coming by the first look of an arrival alone
pub coming_is : (b : ℕ) (act : TokenAct) (came : Option ℕ) (shown : Shown) (train : ℕ)
    → found_coming b act came shown ≡ Some train → (act ≡ acts.Arrive) × (came ≡ None) × (shown ≡ OnLine b train)
coming_is b acts.Arrive None shown train h = (refl, refl, bound shown h) where
  bound : (s : Shown) → bound_for b s ≡ Some train → s ≡ OnLine b train
  bound Idle e = absurd cc
  bound (Leave to) e = absurd cc
  bound (Held at t) e = absurd cc
  bound (OnLine to t) e = by (to == b) refl e where
    by : (test : Bool) → (to == b) ≡ test → cond test (Some t) None ≡ Some train → OnLine to t ≡ OnLine b train
    by true f g = let same : to ≡ b = eqb_same to b f in let trains : t ≡ train = cc in
        λ i. OnLine (same i) (trains i)
    by false f g = absurd cc
coming_is b acts.Arrive (Some t) shown train h = absurd cc
coming_is b acts.Give came shown train h = absurd cc
coming_is b acts.Withdraw came shown train h = absurd cc
coming_is b (acts.Draw t) came shown train h = absurd cc
coming_is b acts.Depart came shown train h = absurd cc
coming_is b acts.Replace came shown train h = absurd cc
coming_is b acts.Look came shown train h = absurd cc

-- ---- along a history

sound_from : (st : TokenState) (es : Es) → IsTokenHistoryFrom st es → Sound st.shown
    → Sound (tokens_after st es).shown
sound_from st [] legal is = is
sound_from st (e ∷ es) legal is = sound_from (after_token_entry st e) es legal.2
    (sound_then st e.call.box_no e.call.act (token_step st e.call.box_no e.call.act) legal.0.box is legal.0.train
    (outcome_of e.call.box_no st legal.0.box e.call.act is))

pub sound_after : (tokens : Tokens) (es : Es) → IsHistoryOf tokens es → Sound (shown_after tokens es)
sound_after tokens es legal = sound_from (opening_tokens tokens.at_0 tokens.at_1) es legal tt

-- how a call that may be made comes out after a history
pub comes_out : (tokens : Tokens) (es : Es) (b : ℕ) (act : TokenAct) → IsHistoryOf tokens es → b < 2
    → Outcome (state_after tokens es) b act (token_step (state_after tokens es) b act)
comes_out tokens es b act legal small =
    outcome_of b (state_after tokens es) small act (sound_after tokens es legal)

-- the last entry's call may be made, and the history before it is legal
last_call : (tokens : Tokens) (es : Es) (e : TokenEntry) → IsHistoryOf tokens (es ++ e ∷ []) → IsTokenCall e.call
last_call tokens es e legal = (token_entry_determined tokens.at_0 tokens.at_1 es [] e legal).0

before_last : (tokens : Tokens) (es : Es) (e : TokenEntry) → IsHistoryOf tokens (es ++ e ∷ []) → IsHistoryOf tokens es
before_last tokens es e legal = token_prefix_legal tokens.at_0 tokens.at_1 es (e ∷ []) legal

-- a history that grows by an entry leads one step of the law further
pub state_grows : (tokens : Tokens) (es : Es) (e : TokenEntry)
    → state_after tokens (es ++ e ∷ []) ≡ (token_step (state_after tokens es) e.call.box_no e.call.act).after
state_grows tokens es e = token_state_grows tokens.at_0 tokens.at_1 es e

-- a call of another box leaves box p the token that is held there, or none
pub hand_kept : (tokens : Tokens) (p : ℕ) (x : Option ℕ)
    → OthersKeep tokens p (λ es. held_at p (shown_after tokens es) ≡ x)
hand_kept tokens p x es e legal other h =
    let b = e.call.box_no in
    let out = comes_out tokens es b e.call.act (before_last tokens es e legal) (last_call tokens es e legal).box in
    ap (λ (s : TokenState). held_at p s.shown) (state_grows tokens es e) ∙
    (keeps_hand (state_after tokens es) b p (λ same. other (sym same)) e.call.act
    (token_step (state_after tokens es) b e.call.act) out ∙ h)

-- a call of another box leaves a train's token on the line to box p
pub coming_kept : (tokens : Tokens) (p train : ℕ) → OthersKeep tokens p (λ es. shown_after tokens es ≡ OnLine p train)
coming_kept tokens p train es e legal other h =
    let b = e.call.box_no in
    let out = comes_out tokens es b e.call.act (before_last tokens es e legal) (last_call tokens es e legal).box in
    ap (λ (s : TokenState). s.shown) (state_grows tokens es e) ∙
    keeps_coming (state_after tokens es) b p (λ same. other (sym same)) e.call.act
    (token_step (state_after tokens es) b e.call.act) train out h

pub tokens_kept : (tokens : Tokens) (p n : ℕ) → p < 2
    → OthersKeep tokens p (λ es. tokens_at (state_after tokens es) p ≡ n)
tokens_kept tokens p n small es e legal other h =
    let b = e.call.box_no in
    let box = (last_call tokens es e legal).box in
    let out = comes_out tokens es b e.call.act (before_last tokens es e legal) box in
    ap (λ (s : TokenState). tokens_at s p) (state_grows tokens es e) ∙
    (keeps_tokens (state_after tokens es) b p (λ same. other (sym same)) e.call.act
    (token_step (state_after tokens es) b e.call.act) box small out ∙ h)

-- the tokens in a box's instrument are as its own entries left them
pub own_tokens : (tokens : Tokens) (b : ℕ) (seen log : Es) → b < 2 → IsPrefix seen log → IsHistoryOf tokens log
    → token_part_of b log ≡ token_part_of b seen
    → tokens_at (state_after tokens log) b ≡ tokens_at (state_after tokens seen) b
own_tokens tokens b seen log small begins legal same = stands tokens b
    (λ (es : Es). tokens_at (state_after tokens es) b ≡ tokens_at (state_after tokens seen) b)
    (tokens_kept tokens b (tokens_at (state_after tokens seen) b) small) seen log begins legal same refl

-- nothing is held at a box without entries
pub none_held : (tokens : Tokens) (b : ℕ) (log : Es) → IsHistoryOf tokens log → token_part_of b log ≡ []
    → held_at b (shown_after tokens log) ≡ None
none_held tokens b log legal none = stands tokens b (λ (es : Es). held_at b (shown_after tokens es) ≡ None)
    (hand_kept tokens b None) [] log (log, refl) legal none refl

-- ---- the words

-- how a box is counted in its tally
tally_grows : (p : ℕ) (es : Es) (e : TokenEntry) → tally_of p (es ++ e ∷ [])
    ≡ tally_of p es + cond (e.call.box_no == p && is_own_refusal e.reply) 1 0
tally_grows p es e = sum_by_push (λ (x : TokenEntry). cond (x.call.box_no == p && is_own_refusal x.reply) 1 0) es e

and_yes : (t u : Bool) → t ≡ true → u ≡ true → ◌≡◌ {A = ℕ} (cond (t && u) 1 0) 1
and_yes true true h k = refl
and_yes true false h k = absurd cc
and_yes false u h k = absurd cc

and_no : (t u : Bool) → t ≡ false → ◌≡◌ {A = ℕ} (cond (t && u) 1 0) 0
and_no true u h = absurd cc
and_no false u h = refl

and_not : (t u : Bool) → u ≡ false → ◌≡◌ {A = ℕ} (cond (t && u) 1 0) 0
and_not true true h = absurd cc
and_not true false h = refl
and_not false u h = refl

-- no more calls are counted than are made
pub tally_short : (p : ℕ) (es : Es) → tally_of p es ≤ length (token_part_of p es)
tally_short p [] = omega arith
tally_short p (e ∷ es) =
    let one = sum_by-cons (λ (x : TokenEntry). cond (x.call.box_no == p && is_own_refusal x.reply) 1 0) e es in
    let rest = tally_short p es in
    let few = step (e.call.box_no == p) (is_own_refusal e.reply) in omega (arith, one, rest, few)
  where
    step : (t u : Bool) → cond (t && u) 1 0 + length (token_part_of p es)
        ≤ length (cond t (e ∷ token_part_of p es) (token_part_of p es))
    step true true = omega arith
    step true false = omega arith
    step false u = omega arith

-- the words after a call: its operation's word, and every other
pub record Grown (tokens : Tokens) (log : Es) (b : ℕ) (act : TokenAct) (op : TokenOp) : Type 0 where
  pub here : word_after op (number_after tokens log (op_word b op))
      ≡ number_after tokens (with_call tokens log b act) (op_word b op)
  pub others : (w : LineWord) → w ≢ op_word b op
      → number_after tokens (with_call tokens log b act) w ≡ number_after tokens log w

module _ (tokens : Tokens) (log : Es) (b : ℕ) (act : TokenAct) where
  grown : (op : TokenOp)
      → Changed b op (state_after tokens log) (token_step (state_after tokens log) b act)
      → Grown tokens log b act op
  grown op (inl t) = subst (Grown tokens log b act) (sym t.0) counted
    where
      after : shown_after tokens (with_call tokens log b act) ≡ shown_after tokens log
      after = ap (λ (s : TokenState). s.shown)
          (state_grows tokens log (entry_after tokens log b act) ∙ t.2)

      counted : Grown tokens log b act ops.Count
      counted = record {
        here = let g = tally_grows b log (entry_after tokens log b act) in
            let one = and_yes (b == b) (is_own_refusal (entry_after tokens log b act).reply) (eqb_yes b b refl) t.1 in
            omega (arith, g, one);
        others = other;
      }
        where
          other : (w : LineWord) → w ≢ TallyOf b
              → number_after tokens (with_call tokens log b act) w ≡ number_after tokens log w
          other (TallyOf p) ne = let g = tally_grows p log (entry_after tokens log b act) in
              let none = and_no (b == p) (is_own_refusal (entry_after tokens log b act).reply)
              (eqb_no b p (λ same. ne (ap TallyOf (sym same)))) in omega (arith, g, none)
          other TokenShown ne = ap token_word after
  grown op (inr t) = record {
    here = subst (λ (w : LineWord). word_after op (number_after tokens log w)
        ≡ number_after tokens (with_call tokens log b act) w) (sym t.0)
        (sym t.2 ∙ ap (λ (s : TokenState). token_word s.shown)
        (sym (state_grows tokens log (entry_after tokens log b act))));
    others = λ w ne. other w (λ same. ne (same ∙ sym t.0));
  }
    where
      other : (w : LineWord) → w ≢ TokenShown
          → number_after tokens (with_call tokens log b act) w ≡ number_after tokens log w
      other (TallyOf p) ne = let g = tally_grows p log (entry_after tokens log b act) in
          let none = and_not (b == p) (is_own_refusal (entry_after tokens log b act).reply) t.1 in
          omega (arith, g, none)
      other TokenShown ne = absurd (ne refl)

  pub words_grow : (hand came : Option ℕ) (n : ℕ) → IsHistoryOf tokens log → b < 2
      → n ≡ tokens_at (state_after tokens log) b → hand ≡ held_at b (shown_after tokens log)
      → Came b (shown_after tokens log) came → found_coming b act came (shown_after tokens log) ≡ None
      → Grown tokens log b act (op_of b act n hand came)
  words_grow hand came n legal small count mark c none =
      subst (λ (h : Option ℕ). Grown tokens log b act (op_of b act n h came)) (sym mark)
      (subst (λ (m : ℕ). Grown tokens log b act (op_of b act m (held_at b (shown_after tokens log)) came)) (sym count)
      (grown (op_of b act (tokens_at (state_after tokens log) b) (held_at b (shown_after tokens log)) came)
      (word_changes (state_after tokens log) b act (token_step (state_after tokens log) b act) came c none
      (comes_out tokens log b act legal small))))
