-- The tokens of a line stay as many, and one train at most carries one.
use Rattle.std.proofs.Common.{◌≡◌, ℕ, ◌+◌, ◌-◌, ◌<◌, ◌≤◌, ◌==◌, Bool, true, false, cond, ◌&&◌, List, [], ◌∷◌, refl, sym}
use Rattle.std.proofs.Common.{ap, subst, ◌∙◌, arith}
use Rattle.std.specs.Prelude.{count_by}
use Rattle.std.proofs.lemmas.List.Sums.{sum_by-cons}
use Rattle.std.proofs.lemmas.Bool.Decides.{nat_tests}
use Rattle.token_law.specs.declared.calls.Shown.{Shown}
use Rattle.token_law.specs.declared.calls.Shown.TheVariants.{Idle, Leave, Held, OnLine}
use Rattle.token_law.specs.declared.calls.TokenAct.{TokenAct}
use Rattle.token_law.specs.declared.calls.TokenAct.TheVariants as acts
use Rattle.token_law.specs.declared.calls.TokenEntry.{TokenEntry}
use Rattle.token_law.specs.declared.calls.TokenReply.{TokenReply}
use Rattle.token_law.specs.History.{IsTokenHistory, IsTokenHistoryFrom, after_token_entry, token_state_of, tokens_after}
use Rattle.token_law.specs.Law.{TokenTold, arrive, depart, draw, draw_under, drawn, give, other_end, replace, replaced}
use Rattle.token_law.specs.Law.{token_step, withdraw}
use Rattle.token_law.specs.States.{TokenState, all_tokens, opening_tokens, out_by, tokens_at, with_tokens}
use Rattle.token_law.specs.Trains.{Carries, drawn_for, draws_for, is_drawn, is_replaced_of, is_token_refusal}
use Rattle.token_law.specs.Trains.{replaced_of}
use Rattle.token_law.proofs.Histories.{token_prefix_legal}

-- what holds of both answers of a test, holds of the one that it picks
by_test : (P : TokenTold → Type 0) (test : Bool) (one other : TokenTold) → (test ≡ true → P one)
    → (test ≡ false → P other) → P (cond test one other)
by_test P true one other h k = h refl
by_test P false one other h k = k refl

-- ---- the tokens of a line

-- so many tokens are there after a call as before
abbrev KeepsTokens : TokenState → TokenTold → Type 0
KeepsTokens state told = all_tokens told.after ≡ all_tokens state

-- the tokens of a line that shows this, with so many in the instrument of box b
with_keeps : (b count : ℕ) (state : TokenState)
    → all_tokens (with_tokens state b count) + tokens_at state b ≡ all_tokens state + count
with_keeps b count state = go (b == 0) where
  go : (first : Bool)
      → all_tokens (cond first (record state { at_0 = count }) (record state { at_1 = count })) + cond first state.at_0
      state.at_1 ≡ all_tokens state + count
  go true = omega arith
  go false = omega arith

with_shows : (b count : ℕ) (state : TokenState) → (with_tokens state b count).shown ≡ state.shown
with_shows b count state = go (b == 0) where
  go : (first : Bool) → (cond first (record state { at_0 = count }) (record state { at_1 = count })).shown ≡ state.shown
  go true = refl
  go false = refl

drawn_keeps : (b train : ℕ) (state : TokenState) → tokens_at state b == 0 ≡ false → out_by state.shown ≡ 0
    → KeepsTokens state (drawn b train state)
drawn_keeps b train state some none =
    let one : 0 < tokens_at state b = not_zero (tokens_at state b) some in
    let all = with_keeps b (tokens_at state b - 1) (record state { shown = Held b train }) in
    omega (arith, one, all, none) where
      not_zero : (n : ℕ) → n == 0 ≡ false → 0 < n
      not_zero n h = grind (arith, nat_tests)

draw_keeps : (b train : ℕ) (state : TokenState) → KeepsTokens state (draw b train state)
draw_keeps b train state = by_test (KeepsTokens state) (tokens_at state b == 0) _ _ (λ _. refl)
    (λ some. under state.shown refl some) where
      under : (shown : Shown) → state.shown ≡ shown → tokens_at state b == 0 ≡ false
          → KeepsTokens state (draw_under b train state shown)
      under Idle e some = refl
      under (Leave to) e some = by_test (KeepsTokens state) (to == b) _ _
          (λ _. drawn_keeps b train state some (ap out_by e)) (λ _. refl)
      under (Held at other) e some = refl
      under (OnLine to other) e some = refl

replaced_keeps : (b train : ℕ) (state : TokenState) → out_by state.shown ≡ 1
    → KeepsTokens state (replaced b train state)
replaced_keeps b train state one =
    let all = with_keeps b (tokens_at state b + 1) (record state { shown = Idle }) in
    omega (arith, all, one)

-- a line that shows something else, with as many tokens out
shows_keeps : (state : TokenState) (before after : Shown) → state.shown ≡ before → out_by after ≡ out_by before
    → all_tokens (record state { shown = after }) ≡ all_tokens state
shows_keeps state before after e f = ap (λ (n : ℕ). state.at_0 + state.at_1 + n) (f ∙ ap out_by (sym e))

give_keeps : (b : ℕ) (state : TokenState) (shown : Shown) → state.shown ≡ shown → KeepsTokens state (give b state shown)
give_keeps b state Idle e = shows_keeps state Idle (Leave (other_end b)) e refl
give_keeps b state (Leave to) e = refl
give_keeps b state (Held at train) e = refl
give_keeps b state (OnLine to train) e = refl

withdraw_keeps : (b : ℕ) (state : TokenState) (shown : Shown) → state.shown ≡ shown
    → KeepsTokens state (withdraw b state shown)
withdraw_keeps b state Idle e = refl
withdraw_keeps b state (Leave to) e = by_test (KeepsTokens state) (to == other_end b) _ _
    (λ _. shows_keeps state (Leave to) Idle e refl) (λ _. refl)
withdraw_keeps b state (Held at train) e = refl
withdraw_keeps b state (OnLine to train) e = refl

depart_keeps : (b : ℕ) (state : TokenState) (shown : Shown) → state.shown ≡ shown
    → KeepsTokens state (depart b state shown)
depart_keeps b state Idle e = refl
depart_keeps b state (Leave to) e = refl
depart_keeps b state (Held at train) e = by_test (KeepsTokens state) (at == b) _ _
    (λ _. shows_keeps state (Held at train) (OnLine (other_end b) train) e refl) (λ _. refl)
depart_keeps b state (OnLine to train) e = refl

arrive_keeps : (b : ℕ) (state : TokenState) (shown : Shown) → state.shown ≡ shown
    → KeepsTokens state (arrive b state shown)
arrive_keeps b state Idle e = refl
arrive_keeps b state (Leave to) e = refl
arrive_keeps b state (Held at train) e = refl
arrive_keeps b state (OnLine to train) e = by_test (KeepsTokens state) (to == b) _ _
    (λ _. shows_keeps state (OnLine to train) (Held b train) e refl) (λ _. refl)

replace_keeps : (b : ℕ) (state : TokenState) (shown : Shown) → state.shown ≡ shown
    → KeepsTokens state (replace b state shown)
replace_keeps b state Idle e = refl
replace_keeps b state (Leave to) e = refl
replace_keeps b state (Held at train) e = by_test (KeepsTokens state) (at == b) _ _
    (λ _. replaced_keeps b train state (ap out_by e)) (λ _. refl)
replace_keeps b state (OnLine to train) e = refl

pub step_keeps_tokens : (state : TokenState) (b : ℕ) (act : TokenAct) → KeepsTokens state (token_step state b act)
step_keeps_tokens state b acts.Give = give_keeps b state state.shown refl
step_keeps_tokens state b acts.Withdraw = withdraw_keeps b state state.shown refl
step_keeps_tokens state b (acts.Draw train) = draw_keeps b train state
step_keeps_tokens state b acts.Depart = depart_keeps b state state.shown refl
step_keeps_tokens state b acts.Arrive = arrive_keeps b state state.shown refl
step_keeps_tokens state b acts.Replace = replace_keeps b state state.shown refl
step_keeps_tokens state b acts.Look = refl

history_keeps : (state : TokenState) (es : List TokenEntry) → all_tokens (tokens_after state es) ≡ all_tokens state
history_keeps state [] = refl
history_keeps state (e ∷ es) = history_keeps (after_token_entry state e) es
    ∙ step_keeps_tokens state e.call.box_no e.call.act

-- after each legal history there are as many tokens as the line opened with
pub tokens_stay : (at_0 at_1 : ℕ) (es : List TokenEntry) → IsTokenHistory at_0 at_1 es
    → all_tokens (token_state_of at_0 at_1 es) ≡ at_0 + at_1
tokens_stay at_0 at_1 es h = let same = history_keeps (opening_tokens at_0 at_1) es in omega (arith, same)

-- no more than one is out
out_few : (shown : Shown) → out_by shown ≤ 1
out_few Idle = omega arith
out_few (Leave to) = omega arith
out_few (Held at train) = omega arith
out_few (OnLine to train) = omega arith

pub one_token_out : (at_0 at_1 : ℕ) (es : List TokenEntry) → IsTokenHistory at_0 at_1 es
    → at_0 + at_1 ≤ (token_state_of at_0 at_1 es).at_0 + (token_state_of at_0 at_1 es).at_1 + 1
one_token_out at_0 at_1 es h = omega (arith, tokens_stay at_0 at_1 es h, out_few (token_state_of at_0 at_1 es).shown)

-- ---- the train that carries a token

-- one where the shown token is this train's
abbrev shown_for : ℕ → Shown → ℕ
shown_for train Idle = 0
shown_for train (Leave to) = 0
shown_for train (Held at other) = cond (other == train) 1 0
shown_for train (OnLine to other) = cond (other == train) 1 0

-- what was drawn for a train and was shown as its own before, was put back or is shown as its own after
abbrev Counts : ℕ → TokenAct → TokenState → TokenTold → Type 0
Counts train act state told =
    cond (is_drawn told.reply && draws_for train act) 1 0 + shown_for train state.shown
    ≡ cond (is_replaced_of train told.reply) 1 0 + shown_for train told.after.shown

draw_counts : (b other train : ℕ) (state : TokenState) → Counts train (acts.Draw other) state (draw b other state)
draw_counts b other train state = by_test (Counts train (acts.Draw other) state) (tokens_at state b == 0) _ _
    (λ _. refl) (λ some. under state.shown refl) where
      taken : shown_for train state.shown ≡ 0 → Counts train (acts.Draw other) state (drawn b other state)
      taken none =
          let same : shown_for train (drawn b other state).after.shown
          ≡ cond (other == train) 1 0 = ap (shown_for train)
          (with_shows b (tokens_at state b - 1) (record state { shown = Held b other })) in
          omega (arith, none, same)

      under : (shown : Shown) → state.shown ≡ shown
          → Counts train (acts.Draw other) state (draw_under b other state shown)
      under Idle e = refl
      under (Leave to) e = by_test (Counts train (acts.Draw other) state) (to == b) _ _
          (λ _. taken (ap (shown_for train) e)) (λ _. refl)
      under (Held at holder) e = refl
      under (OnLine to holder) e = refl

replace_counts : (b train : ℕ) (state : TokenState) (shown : Shown) → state.shown ≡ shown
    → Counts train acts.Replace state (replace b state shown)
replace_counts b train state Idle e = refl
replace_counts b train state (Leave to) e = refl
replace_counts b train state (OnLine to other) e = refl
replace_counts b train state (Held at other) e = by_test (Counts train acts.Replace state) (at == b) _ _ (λ _. put)
    (λ _. refl) where
      put : Counts train acts.Replace state (replaced b other state)
      put =
          let same : shown_for train (replaced b other state).after.shown
          ≡ 0 = ap (shown_for train) (with_shows b (tokens_at state b + 1) (record state { shown = Idle })) in
          let before : shown_for train state.shown ≡ cond (other == train) 1 0 = ap (shown_for train) e in
          omega (arith, same, before)

give_counts : (b train : ℕ) (state : TokenState) (shown : Shown) → state.shown ≡ shown
    → Counts train acts.Give state (give b state shown)
give_counts b train state Idle e = ap (λ (s : Shown). 0 + shown_for train s) e
give_counts b train state (Leave to) e = refl
give_counts b train state (Held at other) e = refl
give_counts b train state (OnLine to other) e = refl

withdraw_counts : (b train : ℕ) (state : TokenState) (shown : Shown) → state.shown ≡ shown
    → Counts train acts.Withdraw state (withdraw b state shown)
withdraw_counts b train state Idle e = refl
withdraw_counts b train state (Leave to) e = by_test (Counts train acts.Withdraw state) (to == other_end b) _ _
    (λ _. ap (λ (s : Shown). 0 + shown_for train s) e) (λ _. refl)
withdraw_counts b train state (Held at other) e = refl
withdraw_counts b train state (OnLine to other) e = refl

depart_counts : (b train : ℕ) (state : TokenState) (shown : Shown) → state.shown ≡ shown
    → Counts train acts.Depart state (depart b state shown)
depart_counts b train state Idle e = refl
depart_counts b train state (Leave to) e = refl
depart_counts b train state (Held at other) e = by_test (Counts train acts.Depart state) (at == b) _ _
    (λ _. ap (λ (s : Shown). 0 + shown_for train s) e) (λ _. refl)
depart_counts b train state (OnLine to other) e = refl

arrive_counts : (b train : ℕ) (state : TokenState) (shown : Shown) → state.shown ≡ shown
    → Counts train acts.Arrive state (arrive b state shown)
arrive_counts b train state Idle e = refl
arrive_counts b train state (Leave to) e = refl
arrive_counts b train state (Held at other) e = refl
arrive_counts b train state (OnLine to other) e = by_test (Counts train acts.Arrive state) (to == b) _ _
    (λ _. ap (λ (s : Shown). 0 + shown_for train s) e) (λ _. refl)

step_counts : (state : TokenState) (b train : ℕ) (act : TokenAct) → Counts train act state (token_step state b act)
step_counts state b train acts.Give = give_counts b train state state.shown refl
step_counts state b train acts.Withdraw = withdraw_counts b train state state.shown refl
step_counts state b train (acts.Draw other) = draw_counts b other train state
step_counts state b train acts.Depart = depart_counts b train state state.shown refl
step_counts state b train acts.Arrive = arrive_counts b train state state.shown refl
step_counts state b train acts.Replace = replace_counts b train state state.shown refl
step_counts state b train acts.Look = refl

count_cons : {X : Type 0} (p : X → Bool) (x : X) (xs : List X) → count_by p (x ∷ xs) ≡ cond (p x) 1 0 + count_by p xs
count_cons p x xs = sum_by-cons (λ y. cond (p y) 1 0) x xs

history_counts : (state : TokenState) (train : ℕ) (es : List TokenEntry) → IsTokenHistoryFrom state es
    → drawn_for train es + shown_for train state.shown
    ≡ replaced_of train es + shown_for train (tokens_after state es).shown
history_counts state train [] h = refl
history_counts state train (e ∷ es) h =
    let one = subst
    (λ (reply : TokenReply). cond (is_drawn reply && draws_for train e.call.act) 1 0 + shown_for train state.shown
    ≡ cond (is_replaced_of train reply) 1 0 + shown_for train (after_token_entry state e).shown) (sym h.1)
    (step_counts state e.call.box_no train e.call.act) in
    let rest = history_counts (after_token_entry state e) train es h.2 in
    let draws = count_cons (λ (x : TokenEntry). is_drawn x.reply && draws_for train x.call.act) e es in
    let puts = count_cons (λ (x : TokenEntry). is_replaced_of train x.reply) e es in
    omega (arith, one, rest, draws, puts)

-- what was drawn for a train was put back, but for the token that is shown as its own
train_counts : (at_0 at_1 train : ℕ) (es : List TokenEntry) → IsTokenHistory at_0 at_1 es
    → drawn_for train es ≡ replaced_of train es + shown_for train (token_state_of at_0 at_1 es).shown
train_counts at_0 at_1 train es h = let all = history_counts (opening_tokens at_0 at_1) train es h in omega (arith, all)

one_shown : (train other : ℕ) (shown : Shown) → 0 < shown_for train shown → 0 < shown_for other shown → train ≡ other
one_shown train other Idle h k = absurd (omega arith)
one_shown train other (Leave to) h k = absurd (omega arith)
one_shown train other (Held at holder) h k = same (holder == train) (holder == other) refl refl h k where
  same : (a b : Bool) → holder == train ≡ a → holder == other ≡ b → 0 < cond a 1 0 → 0 < cond b 1 0 → train ≡ other
  same true true e f h k = grind (arith, nat_tests)
  same false b e f h k = absurd (omega arith)
  same true false e f h k = absurd (omega arith)
one_shown train other (OnLine to holder) h k = same (holder == train) (holder == other) refl refl h k where
  same : (a b : Bool) → holder == train ≡ a → holder == other ≡ b → 0 < cond a 1 0 → 0 < cond b 1 0 → train ≡ other
  same true true e f h k = grind (arith, nat_tests)
  same false b e f h k = absurd (omega arith)
  same true false e f h k = absurd (omega arith)

-- after a legal history no two trains carry a token
pub one_train_carries : (at_0 at_1 : ℕ) (es : List TokenEntry) (train other : ℕ) → IsTokenHistory at_0 at_1 es
    → Carries es train → Carries es other → train ≡ other
one_train_carries at_0 at_1 es train other h own its =
    let shown = (token_state_of at_0 at_1 es).shown in
    one_shown train other shown (omega (arith, own, train_counts at_0 at_1 train es h))
    (omega (arith, its, train_counts at_0 at_1 other es h))

shown_few : (train : ℕ) (shown : Shown) → shown_for train shown ≤ out_by shown
shown_few train Idle = omega arith
shown_few train (Leave to) = omega arith
shown_few train (Held at other) = go (other == train) where
  go : (same : Bool) → cond same 1 0 ≤ 1
  go true = omega arith
  go false = omega arith
shown_few train (OnLine to other) = go (other == train) where
  go : (same : Bool) → cond same 1 0 ≤ 1
  go true = omega arith
  go false = omega arith

-- a train carries no second token
pub one_token_each : (at_0 at_1 : ℕ) (es : List TokenEntry) (train : ℕ) → IsTokenHistory at_0 at_1 es
    → drawn_for train es ≤ replaced_of train es + 1
one_token_each at_0 at_1 es train h =
    let shown = (token_state_of at_0 at_1 es).shown in
    omega (arith, train_counts at_0 at_1 train es h, shown_few train shown, out_few shown)

pub ruleset token_rules = (tokens_stay, one_token_out, token_prefix_legal)

-- ---- refusals

-- a refusal leaves the line as it was
abbrev KeepsLine : TokenState → TokenTold → Type 0
KeepsLine state told = is_token_refusal told.reply ≡ true → told.after ≡ state

give_refused : (b : ℕ) (state : TokenState) (shown : Shown) → KeepsLine state (give b state shown)
give_refused b state Idle h = absurd cc
give_refused b state (Leave to) h = refl
give_refused b state (Held at train) h = refl
give_refused b state (OnLine to train) h = refl

withdraw_refused : (b : ℕ) (state : TokenState) (shown : Shown) → KeepsLine state (withdraw b state shown)
withdraw_refused b state Idle = λ _. refl
withdraw_refused b state (Leave to) = by_test (KeepsLine state) (to == other_end b) _ _ (λ _ h. absurd cc) (λ _ h. refl)
withdraw_refused b state (Held at train) = λ _. refl
withdraw_refused b state (OnLine to train) = λ _. refl

draw_refused : (b train : ℕ) (state : TokenState) → KeepsLine state (draw b train state)
draw_refused b train state = by_test (KeepsLine state) (tokens_at state b == 0) _ _ (λ _ h. refl)
    (λ _. under state.shown) where
      under : (shown : Shown) → KeepsLine state (draw_under b train state shown)
      under Idle = λ _. refl
      under (Leave to) = by_test (KeepsLine state) (to == b) _ _ (λ _ h. absurd cc) (λ _ h. refl)
      under (Held at other) = λ _. refl
      under (OnLine to other) = λ _. refl

depart_refused : (b : ℕ) (state : TokenState) (shown : Shown) → KeepsLine state (depart b state shown)
depart_refused b state Idle = λ _. refl
depart_refused b state (Leave to) = λ _. refl
depart_refused b state (Held at train) = by_test (KeepsLine state) (at == b) _ _ (λ _ h. absurd cc) (λ _ h. refl)
depart_refused b state (OnLine to train) = λ _. refl

arrive_refused : (b : ℕ) (state : TokenState) (shown : Shown) → KeepsLine state (arrive b state shown)
arrive_refused b state Idle = λ _. refl
arrive_refused b state (Leave to) = λ _. refl
arrive_refused b state (Held at train) = λ _. refl
arrive_refused b state (OnLine to train) = by_test (KeepsLine state) (to == b) _ _ (λ _ h. absurd cc) (λ _ h. refl)

replace_refused : (b : ℕ) (state : TokenState) (shown : Shown) → KeepsLine state (replace b state shown)
replace_refused b state Idle = λ _. refl
replace_refused b state (Leave to) = λ _. refl
replace_refused b state (Held at train) = by_test (KeepsLine state) (at == b) _ _ (λ _ h. absurd cc) (λ _ h. refl)
replace_refused b state (OnLine to train) = λ _. refl

pub refusal_keeps : (state : TokenState) (b : ℕ) (act : TokenAct) → KeepsLine state (token_step state b act)
refusal_keeps state b acts.Give = give_refused b state state.shown
refusal_keeps state b acts.Withdraw = withdraw_refused b state state.shown
refusal_keeps state b (acts.Draw train) = draw_refused b train state
refusal_keeps state b acts.Depart = depart_refused b state state.shown
refusal_keeps state b acts.Arrive = arrive_refused b state state.shown
refusal_keeps state b acts.Replace = replace_refused b state state.shown
refusal_keeps state b acts.Look = λ _. refl

pub ruleset refusal_rules = (refusal_keeps)
