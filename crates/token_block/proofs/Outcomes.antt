-- How a call of a box comes out: refused by its own instrument, refused by the token word, or done. Facts of a single
-- line are proved by these cases.
use Rattle.std.proofs.Common.{◌≡◌, ◌≢◌, ℕ, ◌+◌, ◌-◌, ◌*◌, ◌<◌, ◌≤◌, ◌==◌, Bool, true, false, cond}
use Rattle.std.proofs.Common.{Option, Some, None, sym, refl, ap, ◌∙◌, subst, arith}
use Rattle.std.specs.Prelude.{IfSome}
use Rattle.token_law.specs.declared.calls.Shown.{Shown}
use Rattle.token_law.specs.declared.calls.Shown.TheVariants.{Idle, Leave, Held, OnLine}
use Rattle.token_law.specs.declared.calls.TokenAct.{TokenAct}
use Rattle.token_law.specs.declared.calls.TokenAct.TheVariants as acts
use Rattle.token_law.specs.declared.calls.TokenReply.{TokenReply}
use Rattle.token_law.specs.declared.calls.TokenReply.TheVariants as replies
use Rattle.token_law.specs.Law.{TokenTold, arrive, depart, draw, draw_under, drawn, give, other_end, replace, replaced}
use Rattle.token_law.specs.Law.{then_shows, token_step, unchanged, withdraw}
use Rattle.token_law.specs.States.{TokenState, tokens_at}
use Rattle.token_block.specs.declared.words.TokenOp.{TokenOp}
use Rattle.token_block.specs.declared.words.TokenOp.TheVariants as ops
use Rattle.token_block.specs.Men.{hand_then, own_refusal, tokens_then}
use Rattle.token_block.specs.Rule.{held_at}
use Rattle.token_block.specs.Steps.{move_op, op_of, op_word, word_after}
use Rattle.token_block.specs.Words.{IsShown, TokenShown, is_own_refusal, token_word}
use Rattle.token_block.proofs.Parts.{eqb_differ, eqb_no, eqb_same, eqb_yes, if_no, if_yes}

-- what the instruments show after a legal history: boxes of the line, and trains with a number
abbrev pub Sound : Shown → Type 0
Sound Idle = Unit {0}
Sound (Leave to) = to < 2
Sound (Held at train) = (at < 2) × (1 ≤ train)
Sound (OnLine to train) = (to < 2) × (1 ≤ train)

pub sound : (shown : Shown) → IsShown shown → Sound shown
sound Idle h = tt
sound (Leave to) h = h
sound (Held at train) h = (h.0, h.1)
sound (OnLine to train) h = (h.0, h.1)

-- what is shown bears out that a train came
abbrev pub Came : ℕ → Shown → Option ℕ → Type 0
Came b shown came = IfSome came (λ train. shown ≡ OnLine b train)

-- the reply leaves the tokens and the hand as they are
pub record Plain (act : TokenAct) (reply : TokenReply) : Type 0 where
  pub tokens : (n : ℕ) → tokens_then reply n ≡ n
  pub hand : (h : Option ℕ) → hand_then act reply h ≡ h

-- the call's operation is on the token word, which it leaves as it is
abbrev pub Still : ℕ → TokenAct → ℕ → Shown → Type 0
Still b act tokens shown = (came : Option ℕ) → Came b shown came
    → (op_word b (op_of b act tokens (held_at b shown) came) ≡ TokenShown)
    × (word_after (op_of b act tokens (held_at b shown) came) (token_word shown) ≡ token_word shown)

-- how a call of box b comes out
pub data Outcome (st : TokenState) (b : ℕ) : TokenAct → TokenTold → Type 0 where
  Own : (act : TokenAct) (reply : TokenReply) → reply ≡ own_refusal act → is_own_refusal reply ≡ true
      → ((came : Option ℕ) → op_of b act (tokens_at st b) (held_at b st.shown) came ≡ ops.Count)
      → Plain act reply → Outcome st b act (unchanged reply st)
  Stays : (act : TokenAct) (reply : TokenReply) → is_own_refusal reply ≡ false → Still b act (tokens_at st b) st.shown
      → Plain act reply → Outcome st b act (unchanged reply st)
  Gives : st.shown ≡ Idle → Outcome st b acts.Give (then_shows replies.LeaveGiven st (Leave (other_end b)))
  Withdraws : st.shown ≡ Leave (other_end b) → Outcome st b acts.Withdraw (then_shows replies.Withdrawn st Idle)
  Draws : (train : ℕ) → tokens_at st b == 0 ≡ false → st.shown ≡ Leave b
      → Outcome st b (acts.Draw train) (drawn b train st)
  Departs : (train : ℕ) → st.shown ≡ Held b train
      → Outcome st b acts.Depart (then_shows (replies.Departed train) st (OnLine (other_end b) train))
  Arrives : (train : ℕ) → st.shown ≡ OnLine b train
      → Outcome st b acts.Arrive (then_shows (replies.Arrived train) st (Held b train))
  Replaces : (train : ℕ) → st.shown ≡ Held b train → Outcome st b acts.Replace (replaced b train st)

-- what holds of both answers of a test, holds of the one that it picks
by_test : (P : TokenTold → Type 0) (test : Bool) (one other : TokenTold) → (test ≡ true → P one)
    → (test ≡ false → P other) → P (cond test one other)
by_test P true one other h k = h refl
by_test P false one other h k = k refl

-- ---- the token word under a change

-- a change from what the token word shows leaves it showing what it is changed to
pub changes : (from to : Shown) (n : ℕ) → n ≡ token_word from → word_after (ops.Change from to) n ≡ token_word to
changes from to n e = if_yes (n == token_word from) (token_word to) n (eqb_yes n (token_word from) e)

unchanging : (from to : Shown) (n : ℕ) → n ≢ token_word from → word_after (ops.Change from to) n ≡ n
unchanging from to n ne = if_no (n == token_word from) (token_word to) n (eqb_no n (token_word from) ne)

module _ (b : ℕ) (st : TokenState) (small : b < 2) where
  still_at : (act : TokenAct) (shown : Shown) → st.shown ≡ shown → Still b act (tokens_at st b) shown
      → Still b act (tokens_at st b) st.shown
  still_at act shown e h = subst (Still b act (tokens_at st b)) (sym e) h

  give_out : (shown : Shown) → st.shown ≡ shown → Sound shown → Outcome st b acts.Give (give b st shown)
  give_out Idle e is = Gives e
  give_out (Leave to) e is = Stays acts.Give (replies.LeaveOut to) refl
      (still_at acts.Give (Leave to) e
      (λ came h. (refl, unchanging Idle (Leave (other_end b)) (1 + to) (λ z. omega (arith, z)))))
      (record { tokens = λ n. refl; hand = λ h. refl })
  give_out (Held at train) e is = Stays acts.Give (replies.TokenOut train) refl
      (still_at acts.Give (Held at train) e
      (λ came h. (refl, unchanging Idle (Leave (other_end b)) (8 * train + 3 + at) (λ z. omega (arith, z)))))
      (record { tokens = λ n. refl; hand = λ h. refl })
  give_out (OnLine to train) e is = Stays acts.Give (replies.TokenOut train) refl
      (still_at acts.Give (OnLine to train) e
      (λ came h. (
        refl,
        unchanging Idle (Leave (other_end b)) (8 * train + (6 - to))
            (λ z. let t = is.1 in omega (arith, z, t)),
      )))
      (record { tokens = λ n. refl; hand = λ h. refl })

  withdraw_out : (shown : Shown) → st.shown ≡ shown → Sound shown → Outcome st b acts.Withdraw (withdraw b st shown)
  withdraw_out Idle e is = Stays acts.Withdraw replies.NoLeave refl
      (still_at acts.Withdraw Idle e
      (λ came h. (refl, unchanging (Leave (other_end b)) Idle 0 (λ z. omega (arith, z)))))
      (record { tokens = λ n. refl; hand = λ h. refl })
  withdraw_out (Leave to) e is = by_test (Outcome st b acts.Withdraw) (to == other_end b) _ _
      (λ same. Withdraws (e ∙ ap Leave (eqb_same to (other_end b) same)))
      (λ other. Stays acts.Withdraw replies.NoLeave refl
      (still_at acts.Withdraw (Leave to) e
      (λ came h. (
        refl,
        unchanging (Leave (other_end b)) Idle (1 + to)
            (λ z. let ne = eqb_differ to (other_end b) other in ne (omega (arith, z))),
      )))
      (record { tokens = λ n. refl; hand = λ h. refl }))
  withdraw_out (Held at train) e is = Stays acts.Withdraw replies.NoLeave refl
      (still_at acts.Withdraw (Held at train) e
      (λ came h. (
        refl,
        unchanging (Leave (other_end b)) Idle (8 * train + 3 + at)
            (λ z. let t = is.1 in omega (arith, z, t)),
      )))
      (record { tokens = λ n. refl; hand = λ h. refl })
  withdraw_out (OnLine to train) e is = Stays acts.Withdraw replies.NoLeave refl
      (still_at acts.Withdraw (OnLine to train) e
      (λ came h. (
        refl,
        unchanging (Leave (other_end b)) Idle (8 * train + (6 - to))
            (λ z. let t = is.1 in omega (arith, z, t)),
      )))
      (record { tokens = λ n. refl; hand = λ h. refl })

  -- a draw from an instrument with tokens changes the word from the leave to b
  draw_is : (train : ℕ) (h came : Option ℕ) → tokens_at st b == 0 ≡ false
      → op_of b (acts.Draw train) (tokens_at st b) h came ≡ ops.Change (Leave b) (Held b train)
  draw_is train h came some = if_no (tokens_at st b == 0) ops.Count (ops.Change (Leave b) (Held b train)) some

  not_drawn : (train : ℕ) (shown : Shown) → tokens_at st b == 0 ≡ false → token_word shown ≢ 1 + b
      → Still b (acts.Draw train) (tokens_at st b) shown
  not_drawn train shown some ne came h =
      let is = sym (draw_is train (held_at b shown) came some) in (
        ap (op_word b) (sym is),
        subst (λ (op : TokenOp). word_after op (token_word shown) ≡ token_word shown) is
            (unchanging (Leave b) (Held b train) (token_word shown) ne),
      )

  draw_under_out : (train : ℕ) (shown : Shown) → st.shown ≡ shown → Sound shown → tokens_at st b == 0 ≡ false
      → Outcome st b (acts.Draw train) (draw_under b train st shown)
  draw_under_out train Idle e is some = Stays (acts.Draw train) replies.NoLeave refl
      (still_at (acts.Draw train) Idle e (not_drawn train Idle some (λ z. omega (arith, z))))
      (record { tokens = λ n. refl; hand = λ h. refl })
  draw_under_out train (Leave to) e is some = by_test (Outcome st b (acts.Draw train)) (to == b) _ _
      (λ same. Draws train some (e ∙ ap Leave (eqb_same to b same)))
      (λ other. Stays (acts.Draw train) replies.NoLeave refl
      (still_at (acts.Draw train) (Leave to) e
      (not_drawn train (Leave to) some (λ z. let ne = eqb_differ to b other in ne (omega (arith, z)))))
      (record { tokens = λ n. refl; hand = λ h. refl }))
  draw_under_out train (Held at holder) e is some = Stays (acts.Draw train) (replies.TokenOut holder) refl
      (still_at (acts.Draw train) (Held at holder) e
      (not_drawn train (Held at holder) some (λ z. let t = is.1 in omega (arith, z, t))))
      (record { tokens = λ n. refl; hand = λ h. refl })
  draw_under_out train (OnLine to holder) e is some = Stays (acts.Draw train) (replies.TokenOut holder) refl
      (still_at (acts.Draw train) (OnLine to holder) e
      (not_drawn train (OnLine to holder) some (λ z. let t = is.1 in omega (arith, z, t))))
      (record { tokens = λ n. refl; hand = λ h. refl })

  draw_out : (train : ℕ) → Sound st.shown → Outcome st b (acts.Draw train) (draw b train st)
  draw_out train is = by_test (Outcome st b (acts.Draw train)) (tokens_at st b == 0) _ _
      (λ none. Own (acts.Draw train) replies.Empty refl refl
      (λ came. if_yes (tokens_at st b == 0) ops.Count (ops.Change (Leave b) (Held b train)) none)
      (record { tokens = λ n. refl; hand = λ h. refl }))
      (λ some. draw_under_out train st.shown refl is some)

  -- nothing is in hand where no token is held at b
  no_hand : (act : TokenAct) (to : ℕ → Shown) (shown : Shown) → st.shown ≡ shown → held_at b shown ≡ None
      → ((h came : Option ℕ) → op_of b act (tokens_at st b) h came ≡ move_op to h)
      → (came : Option ℕ) → op_of b act (tokens_at st b) (held_at b st.shown) came ≡ ops.Count
  no_hand act to shown e none moves came = moves (held_at b st.shown) came ∙
      ap (move_op to) (ap (held_at b) e ∙ none)

  no_token : (act : TokenAct) (to : ℕ → Shown) (shown : Shown) → st.shown ≡ shown → held_at b shown ≡ None
      → ((h came : Option ℕ) → op_of b act (tokens_at st b) h came ≡ move_op to h)
      → replies.NoToken ≡ own_refusal act → Outcome st b act (unchanged replies.NoToken st)
  no_token act to shown e none moves own = Own act replies.NoToken own refl (no_hand act to shown e none moves)
      (record { tokens = λ n. refl; hand = λ h. refl })

  depart_out : (shown : Shown) → st.shown ≡ shown → Outcome st b acts.Depart (depart b st shown)
  depart_out Idle e = no_token acts.Depart (λ train. OnLine (other_end b) train) Idle e refl (λ h came. refl) refl
  depart_out (Leave to) e = no_token acts.Depart (λ train. OnLine (other_end b) train) (Leave to) e refl
      (λ h came. refl) refl
  depart_out (Held at train) e = by_test (Outcome st b acts.Depart) (at == b) _ _
      (λ same. Departs train (e ∙ ap (λ (x : ℕ). Held x train) (eqb_same at b same)))
      (λ other. no_token acts.Depart (λ t. OnLine (other_end b) t) (Held at train) e
      (if_no (at == b) (Some train) None other) (λ h came. refl) refl)
  depart_out (OnLine to train) e = no_token acts.Depart (λ t. OnLine (other_end b) t) (OnLine to train) e refl
      (λ h came. refl) refl

  replace_out : (shown : Shown) → st.shown ≡ shown → Outcome st b acts.Replace (replace b st shown)
  replace_out Idle e = no_token acts.Replace (λ train. Idle) Idle e refl (λ h came. refl) refl
  replace_out (Leave to) e = no_token acts.Replace (λ train. Idle) (Leave to) e refl (λ h came. refl) refl
  replace_out (Held at train) e = by_test (Outcome st b acts.Replace) (at == b) _ _
      (λ same. Replaces train (e ∙ ap (λ (x : ℕ). Held x train) (eqb_same at b same)))
      (λ other. no_token acts.Replace (λ t. Idle) (Held at train) e
      (if_no (at == b) (Some train) None other) (λ h came. refl) refl)
  replace_out (OnLine to train) e = no_token acts.Replace (λ t. Idle) (OnLine to train) e refl (λ h came. refl) refl

  -- no train came where none is on the line to b
  no_train : (shown : Shown) → st.shown ≡ shown → ((train : ℕ) → shown ≢ OnLine b train)
      → Outcome st b acts.Arrive (unchanged replies.NoTrain st)
  no_train shown e none = Stays acts.Arrive replies.NoTrain refl (still_at acts.Arrive shown e looks)
      (record { tokens = λ n. refl; hand = λ h. refl })
    where
      looks : Still b acts.Arrive (tokens_at st b) shown
      looks None h = (refl, refl)
      looks (Some train) h = absurd (none train h)

  arrive_out : (shown : Shown) → st.shown ≡ shown → Outcome st b acts.Arrive (arrive b st shown)
  arrive_out Idle e = no_train Idle e (λ train h. cc)
  arrive_out (Leave to) e = no_train (Leave to) e (λ train h. cc)
  arrive_out (Held at train) e = no_train (Held at train) e (λ other h. cc)
  arrive_out (OnLine to train) e = by_test (Outcome st b acts.Arrive) (to == b) _ _
      (λ same. Arrives train (e ∙ ap (λ (x : ℕ). OnLine x train) (eqb_same to b same)))
      (λ other. no_train (OnLine to train) e (λ t h. let ne = eqb_differ to b other in ne (cc)))

  pub outcome_of : (act : TokenAct) → Sound st.shown → Outcome st b act (token_step st b act)
  outcome_of acts.Give is = give_out st.shown refl is
  outcome_of acts.Withdraw is = withdraw_out st.shown refl is
  outcome_of (acts.Draw train) is = draw_out train is
  outcome_of acts.Depart is = depart_out st.shown refl
  outcome_of acts.Arrive is = arrive_out st.shown refl
  outcome_of acts.Replace is = replace_out st.shown refl
  outcome_of acts.Look is = Stays acts.Look (replies.Seen st.shown) refl (λ came h. (refl, refl))
      (record { tokens = λ n. refl; hand = λ h. refl })
