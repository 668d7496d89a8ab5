-- What a call of a man comes to, by what its steps told.
use Rattle.std.proofs.Common.{◌≡◌, ◌≢◌, ℕ, ◌-◌, ◌<◌, ◌≤◌, ◌==◌, Bool, true, false, cond, ◌⊎◌, inl, inr}
use Rattle.std.proofs.Common.{⊎_elim, [], ◌∷◌, ◌++◌, Option, Some, None, sym, refl, ap, ◌∙◌, subst, arith}
use Rattle.std.specs.Prelude.{IfSome}
use mathlib.Core.List.{IsPrefix}
use Rattle.token_law.specs.declared.calls.Shown.{Shown}
use Rattle.token_law.specs.declared.calls.Shown.TheVariants.{Idle, Leave, Held, OnLine}
use Rattle.token_law.specs.declared.calls.TokenAct.{TokenAct}
use Rattle.token_law.specs.declared.calls.TokenAct.TheVariants as acts
use Rattle.token_law.specs.declared.calls.TokenReply.{TokenReply}
use Rattle.token_law.specs.declared.calls.TokenReply.TheVariants as replies
use Rattle.token_law.specs.History.{token_part_of}
use Rattle.token_law.specs.Law.{NamesTrain, TokenTold, arrive, depart, draw, draw_under, give, other_end, replace}
use Rattle.token_law.specs.Law.{token_step, withdraw}
use Rattle.token_law.specs.States.{TokenState, all_tokens, most_tokens, tokens_at}
use Rattle.token_law.proofs.Histories.{token_history_grows}
use Rattle.token_law.proofs.Tokens.{tokens_stay}
use Rattle.token_block.specs.declared.view.Tokens.{Tokens}
use Rattle.token_block.specs.declared.view.TokenView.{TokenView}
use Rattle.token_block.specs.declared.words.TokenOp.{TokenOp}
use Rattle.token_block.specs.declared.words.TokenOp.TheVariants as ops
use Rattle.token_block.specs.declared.instrument.Instrument.{Instrument}
use Rattle.token_block.specs.Men.{Answered, HasTokens, IsMan, answered, hand_then, own_refusal, reply_by, tokens_then}
use Rattle.token_block.specs.Rule.{IsHistoryOf, held_at, shown_after}
use Rattle.token_block.specs.Steps.{MayStep, Stepped, call_by, draw_op, entry_after, found_coming, op_by, op_of}
use Rattle.token_block.specs.Steps.{op_word}
use Rattle.token_block.specs.Steps.{state_after, view_after, with_call}
use Rattle.token_block.specs.Words.{IsShown, TallyOf, TokenShown, is_own_refusal, number_after, token_word}
use Rattle.token_block.proofs.Changes.{Changed, coming_is, comes_out, hand_changes, own_tokens, state_grows}
use Rattle.token_block.proofs.Changes.{tokens_change, word_changes}
use Rattle.token_block.proofs.Outcomes.{Arrives, Departs, Draws, Gives, Outcome, Own, Replaces, Stays, Withdraws}
use Rattle.token_block.proofs.Parts.{Es, eqb_differ, if_yes, longer_prefix, part_grows, prefix_trans}

-- ---- the reply by what is shown

both_test : (test : Bool) (one other three four : TokenTold) → one.reply ≡ three.reply → other.reply ≡ four.reply
    → (cond test one other).reply ≡ (cond test three four).reply
both_test true one other three four h k = h
both_test false one other three four h k = k

give_reply : (b : ℕ) (s t : TokenState) (shown : Shown) → (give b s shown).reply ≡ (give b t shown).reply
give_reply b s t Idle = refl
give_reply b s t (Leave to) = refl
give_reply b s t (Held at train) = refl
give_reply b s t (OnLine to train) = refl

withdraw_reply : (b : ℕ) (s t : TokenState) (shown : Shown) → (withdraw b s shown).reply ≡ (withdraw b t shown).reply
withdraw_reply b s t Idle = refl
withdraw_reply b s t (Leave to) = both_test (to == other_end b) _ _ _ _ refl refl
withdraw_reply b s t (Held at train) = refl
withdraw_reply b s t (OnLine to train) = refl

draw_reply : (b train : ℕ) (s t : TokenState) (shown : Shown)
    → (draw_under b train s shown).reply ≡ (draw_under b train t shown).reply
draw_reply b train s t Idle = refl
draw_reply b train s t (Leave to) = both_test (to == b) _ _ _ _ refl refl
draw_reply b train s t (Held at other) = refl
draw_reply b train s t (OnLine to other) = refl

depart_reply : (b : ℕ) (s t : TokenState) (shown : Shown) → (depart b s shown).reply ≡ (depart b t shown).reply
depart_reply b s t Idle = refl
depart_reply b s t (Leave to) = refl
depart_reply b s t (Held at train) = both_test (at == b) _ _ _ _ refl refl
depart_reply b s t (OnLine to train) = refl

arrive_reply : (b : ℕ) (s t : TokenState) (shown : Shown) → (arrive b s shown).reply ≡ (arrive b t shown).reply
arrive_reply b s t Idle = refl
arrive_reply b s t (Leave to) = refl
arrive_reply b s t (Held at train) = refl
arrive_reply b s t (OnLine to train) = both_test (to == b) _ _ _ _ refl refl

replace_reply : (b : ℕ) (s t : TokenState) (shown : Shown) → (replace b s shown).reply ≡ (replace b t shown).reply
replace_reply b s t Idle = refl
replace_reply b s t (Leave to) = refl
replace_reply b s t (Held at train) = both_test (at == b) _ _ _ _ refl refl
replace_reply b s t (OnLine to train) = refl

-- a draw from an instrument with a token
draw_is : (b train : ℕ) (s : TokenState) → tokens_at s b == 0 ≡ false
    → (draw b train s).reply ≡ (draw_under b train s s.shown).reply
draw_is b train s some = go (tokens_at s b == 0) some where
  go : (test : Bool) → test ≡ false → (cond test (Rattle.token_law.specs.Law.unchanged replies.Empty s)
      (draw_under b train s s.shown)).reply ≡ (draw_under b train s s.shown).reply
  go true h = absurd cc
  go false h = refl

one_there : (b : ℕ) (shown : Shown) → tokens_at (record { shown = shown; at_0 = 1; at_1 = 1 }) b == 0 ≡ false
one_there b shown = go (b == 0) where
  go : (first : Bool) → cond {A = ℕ} first 1 1 == 0 ≡ false
  go true = refl
  go false = refl

-- a draw's instrument has a token
abbrev HasToken : TokenState → ℕ → TokenAct → Type 0
HasToken st b act = (train : ℕ) → act ≡ acts.Draw train → tokens_at st b == 0 ≡ false

reply_shown : (st : TokenState) (b : ℕ) (act : TokenAct) → HasToken st b act
    → reply_by b act st.shown ≡ (token_step st b act).reply
reply_shown st b acts.Give has = give_reply b _ st st.shown
reply_shown st b acts.Withdraw has = withdraw_reply b _ st st.shown
reply_shown st b (acts.Draw train) has = draw_is b train (record { shown = st.shown; at_0 = 1; at_1 = 1 })
    (one_there b st.shown) ∙ (draw_reply b train _ st st.shown ∙ sym (draw_is b train st (has train refl)))
reply_shown st b acts.Depart has = depart_reply b _ st st.shown
reply_shown st b acts.Arrive has = arrive_reply b _ st st.shown
reply_shown st b acts.Replace has = replace_reply b _ st st.shown
reply_shown st b acts.Look has = refl

own_reply : (st : TokenState) (b : ℕ) (act : TokenAct) (told : TokenTold) → Outcome st b act told
    → is_own_refusal told.reply ≡ true → told.reply ≡ own_refusal act
own_reply st b act told (Own a reply refused own count plain) h = refused
own_reply st b act told (Stays a reply own still plain) h = absurd cc
own_reply st b act told (Gives e) h = absurd cc
own_reply st b act told (Withdraws e) h = absurd cc
own_reply st b act told (Draws train some e) h = absurd cc
own_reply st b act told (Departs train e) h = absurd cc
own_reply st b act told (Arrives train e) h = absurd cc
own_reply st b act told (Replaces train e) h = absurd cc

-- a token is drawn from an instrument that has one
drawn_some : (st : TokenState) (b : ℕ) (act : TokenAct) (told : TokenTold) → Outcome st b act told
    → ((n : ℕ) → tokens_then told.reply n ≡ n) ⊎ (told.reply ≢ replies.Drawn) ⊎ (tokens_at st b == 0 ≡ false)
drawn_some st b act told (Own a reply refused own count plain) = inl plain.tokens
drawn_some st b act told (Stays a reply own still plain) = inl plain.tokens
drawn_some st b act told (Gives e) = inr (inl (λ h. absurd cc))
drawn_some st b act told (Withdraws e) = inr (inl (λ h. absurd cc))
drawn_some st b act told (Draws train some e) = inr (inr some)
drawn_some st b act told (Departs train e) = inr (inl (λ h. absurd cc))
drawn_some st b act told (Arrives train e) = inr (inl (λ h. absurd cc))
drawn_some st b act told (Replaces train e) = inr (inl (λ h. absurd cc))

drawn_from : (st : TokenState) (b : ℕ) (act : TokenAct) (told : TokenTold) → Outcome st b act told
    → told.reply ≡ replies.Drawn → 0 < tokens_at st b
drawn_from st b act told out h = ⊎_elim
    (λ (plain : (n : ℕ) → tokens_then told.reply n ≡ n).
    (let one : 1 - 1 ≡ 1 = sym (ap (λ (r : TokenReply). tokens_then r 1) h) ∙ plain 1 in absurd (omega (arith, one))))
    (λ (rest : (told.reply ≢ replies.Drawn) ⊎ (tokens_at st b == 0 ≡ false)). ⊎_elim
    (λ (ne : told.reply ≢ replies.Drawn). absurd (ne h))
    (λ (some : tokens_at st b == 0 ≡ false). let ne = eqb_differ (tokens_at st b) 0 some in omega (arith, ne)) rest)
    (drawn_some st b act told out)

-- ---- the entry of a call

module _ (tokens : Tokens) (b : ℕ) (act : TokenAct) (v : TokenView) where
  -- what a call is answered whose entry was made after this history
  pub answers : (w : TokenView) (log : Es) (reply : TokenReply) → b < 2 → NamesTrain act → IsPrefix v.seen log
      → token_part_of b log ≡ token_part_of b v.seen → IsHistoryOf tokens log
      → v.hand ≡ held_at b (shown_after tokens log) → w.opened ≡ v.opened → w.post ≡ v.post
      → w.seen ≡ with_call tokens log b act → w.olds ≡ None → w.came ≡ None
      → w.hand ≡ held_at b (shown_after tokens (with_call tokens log b act))
      → reply ≡ (token_step (state_after tokens log) b act).reply
      → Answered tokens b act reply v w
  answers w log reply small names begins own legal hand opened post seen olds came marked told = record {
    performed = record {
      begins = subst (λ (es : Es). IsPrefix v.seen es) (sym seen)
          (longer_prefix v.seen log (entry_after tokens log b act) begins);
      legal = subst (IsHistoryOf tokens) (sym seen) legal_then;
      last = (log, seen_is);
      grew = ap (token_part_of b) seen_is ∙ (part_grows b log (answered b act reply) refl ∙
          ap (λ (es : Es). es ++ answered b act reply ∷ []) own);
    };
    same_line = opened;
    post = post;
    olds = olds;
    came = came;
    hand = marked ∙
        (ap (λ (s : TokenState). held_at b s.shown) grows ∙
        (hand_changes (state_after tokens log) b act (token_step (state_after tokens log) b act) out ∙
        ap (λ (r : TokenReply). hand_then act r (held_at b (shown_after tokens log))) (sym told) ∙
        ap (hand_then act reply) (sym hand)));
    some = λ h. subst (λ (n : ℕ). 0 < n) same_tokens
        (drawn_from (state_after tokens log) b act (token_step (state_after tokens log) b act) out (sym told ∙ h));
    tokens_are = ap (λ (es : Es). tokens_at (state_after tokens es) b) seen ∙
        (ap (λ (s : TokenState). tokens_at s b) grows ∙
        (tokens_change (state_after tokens log) b act (token_step (state_after tokens log) b act) out ∙
        ap (λ (r : TokenReply). tokens_then r (tokens_at (state_after tokens log) b)) (sym told) ∙
        ap (tokens_then reply) same_tokens));
  }
    where
      seen_is : w.seen ≡ log ++ answered b act reply ∷ []
      seen_is = seen ∙ ap (λ (r : TokenReply). log ++ answered b act r ∷ []) (sym told)

      legal_then : IsHistoryOf tokens (with_call tokens log b act)
      legal_then = token_history_grows tokens.at_0 tokens.at_1 log (call_by b act) legal
          (record { box = small; train = names })

      out : Outcome (state_after tokens log) b act (token_step (state_after tokens log) b act)
      out = comes_out tokens log b act legal small

      grows : state_after tokens (with_call tokens log b act) ≡ (token_step (state_after tokens log) b act).after
      grows = state_grows tokens log (entry_after tokens log b act)

      same_tokens : tokens_at (state_after tokens log) b ≡ tokens_at (state_after tokens v.seen) b
      same_tokens = own_tokens tokens b v.seen log small begins legal own

-- ---- what the steps of a call told

-- a man's instrument has few tokens
pub few_tokens : (tokens : Tokens) (v : TokenView) (b : ℕ) (own : Instrument) → IsMan v b own
    → v.opened ≡ Some tokens → tokens.at_0 ≤ most_tokens → tokens.at_1 ≤ most_tokens → own.tokens < 2147483648
few_tokens tokens v b own man has few_0 few_1 =
    let at : HasTokens b v.seen own.tokens tokens =
    subst (λ (o : Option Tokens). IfSome o (HasTokens b v.seen own.tokens)) has man.tokens in
    let all = tokens_stay tokens.at_0 tokens.at_1 v.seen at.legal in
    let one = part (state_after tokens v.seen) in
    let count = at.count_is in omega (arith, all, one, count, few_0, few_1)
  where
    part : (st : TokenState) → tokens_at st b ≤ all_tokens st
    part st = go (b == 0) where
      go : (first : Bool) → cond first st.at_0 st.at_1 ≤ all_tokens st
      go true = omega arith
      go false = omega arith

not_count : (b : ℕ) (op : TokenOp) → op ≢ ops.Count → op_word b op ≡ TokenShown
not_count b ops.Count ne = absurd (ne refl)
not_count b (ops.Change from to) ne = refl
not_count b (ops.Move to) ne = refl
not_count b ops.Look ne = refl

module _ (tokens : Tokens) (b : ℕ) (act : TokenAct) (v : TokenView) (n : ℕ) (u : TokenView)
    (may : MayStep tokens b act v) (s : Stepped tokens b act v n u) where
  op_then : op_by tokens b act v ≡ op_of b act (tokens_at (state_after tokens s.log) b)
      (held_at b (shown_after tokens s.log)) v.came
  op_then = ap (λ (k : ℕ). op_of b act k v.hand v.came)
      (sym (own_tokens tokens b v.seen s.log may.box s.begins s.legal s.own)) ∙
      ap (λ (h : Option ℕ). op_of b act (tokens_at (state_after tokens s.log) b) h v.came) s.hand

  out : Outcome (state_after tokens s.log) b act (token_step (state_after tokens s.log) b act)
  out = comes_out tokens s.log b act s.legal may.box

  -- the instruments as the word shows them
  pub shown_found : (op : TokenOp) (shown : Shown) → op ≡ op_by tokens b act v → op ≢ ops.Count
      → ((t : Shown) → IsShown t → n ≡ token_word t → shown ≡ t) → shown ≡ shown_after tokens s.log
  shown_found op shown is ne finds = finds (shown_after tokens s.log) s.shown
      (s.found ∙ ap (number_after tokens s.log) (ap (op_word b) (sym is) ∙ not_count b op ne))

  entry_made : (reply : TokenReply) → found_coming b act v.came (shown_after tokens s.log) ≡ None
      → reply ≡ (token_step (state_after tokens s.log) b act).reply → Answered tokens b act reply v u
  entry_made reply no_train told = let is : u ≡ view_after tokens b act v s.log None =
      s.now ∙ ap (view_after tokens b act v s.log) no_train in
      answers tokens b act v u s.log reply may.box may.train s.begins s.own s.legal s.hand
      (ap (λ (x : TokenView). x.opened) is) (ap (λ (x : TokenView). x.post) is) (ap (λ (x : TokenView). x.seen) is)
      (ap (λ (x : TokenView). x.olds) is) (ap (λ (x : TokenView). x.came) is) (ap (λ (x : TokenView). x.hand) is) told

  -- a call that the box's own instrument refuses
  pub refused_here : (op : TokenOp) → op ≡ op_by tokens b act v → op ≡ ops.Count
      → Answered tokens b act (own_refusal act) v u
  refused_here op is counts = by (found_coming b act v.came (shown_after tokens s.log)) refl
    where
      counted : op_by tokens b act v ≡ ops.Count
      counted = sym is ∙ counts

      by : (d : Option ℕ) → found_coming b act v.came (shown_after tokens s.log) ≡ d
          → Answered tokens b act (own_refusal act) v u
      by (Some train) h =
          let coming = coming_is b act v.came (shown_after tokens s.log) train h in
          let looks : op_by tokens b act v ≡ ops.Look =
          ap (λ (a : TokenAct). op_of b a (tokens_at (state_after tokens v.seen) b) v.hand v.came) coming.0 ∙
          ap (λ (c : Option ℕ). op_of b acts.Arrive (tokens_at (state_after tokens v.seen) b) v.hand c) coming.1 in
          let bad : ops.Look ≡ ops.Count = sym looks ∙ counted in absurd cc
      by None h = entry_made (own_refusal act) h (sym (own_reply (state_after tokens s.log) b act
          (token_step (state_after tokens s.log) b act) out own))
        where
          changed : Changed b (op_of b act (tokens_at (state_after tokens s.log) b)
              (held_at b (shown_after tokens s.log)) v.came) (state_after tokens s.log)
              (token_step (state_after tokens s.log) b act)
          changed = word_changes (state_after tokens s.log) b act (token_step (state_after tokens s.log) b act) v.came
              s.came h out

          own : is_own_refusal (token_step (state_after tokens s.log) b act).reply ≡ true
          own = elim changed [
            | inl t ↦ t.1
            | inr t ↦ let bad : TallyOf b ≡ TokenShown =
                ap (op_word b) (sym counted ∙ op_then) ∙ t.0 in absurd cc
          ]

  -- a draw is counted where the instrument has no token
  has_token : (op : TokenOp) → op ≡ op_by tokens b act v → op ≢ ops.Count
      → HasToken (state_after tokens s.log) b act
  has_token op is ne train e = by (tokens_at (state_after tokens s.log) b == 0) refl
    where
      drawn_op : op_by tokens b act v ≡ draw_op b train (tokens_at (state_after tokens s.log) b)
      drawn_op = op_then ∙ ap (λ (a : TokenAct). op_of b a (tokens_at (state_after tokens s.log) b)
          (held_at b (shown_after tokens s.log)) v.came) e

      by : (t : Bool) → tokens_at (state_after tokens s.log) b == 0 ≡ t
          → tokens_at (state_after tokens s.log) b == 0 ≡ false
      by true h = absurd (ne (is ∙ (drawn_op ∙ if_yes (tokens_at (state_after tokens s.log) b == 0) ops.Count
          (ops.Change (Leave b) (Held b train)) h)))
      by false h = h

  -- a call that the token word decides
  pub decided_there : (op : TokenOp) (shown : Shown) (reply : TokenReply) → op ≡ op_by tokens b act v → op ≢ ops.Count
      → shown ≡ shown_after tokens s.log → found_coming b act v.came shown ≡ None → reply ≡ reply_by b act shown
      → Answered tokens b act reply v u
  decided_there op shown reply is ne there no_train told = entry_made reply
      (ap (found_coming b act v.came) (sym there) ∙ no_train)
      (told ∙ (ap (reply_by b act) there ∙ reply_shown (state_after tokens s.log) b act (has_token op is ne)))

-- a call of a train that is found coming, and then taken in
pub taken_in : (tokens : Tokens) (b : ℕ) (act : TokenAct) (v : TokenView) (n : ℕ) (u : TokenView) (m : ℕ)
    (w : TokenView) (shown : Shown) (train : ℕ) (reply : TokenReply) (s : Stepped tokens b act v n u)
    → MayStep tokens b act v
    → Stepped tokens b act u m w → shown ≡ shown_after tokens s.log
    → found_coming b act v.came shown ≡ Some train → reply ≡ reply_by b act shown → Answered tokens b act reply v w
taken_in tokens b act v n u m w shown train reply s may r there h told =
    answers tokens b act v w r.log reply may.box may.train
    (prefix_trans v.seen u.seen r.log (subst (λ (es : Es). IsPrefix v.seen es) (sym seen_u) s.begins) r.begins)
    (r.own ∙ (ap (token_part_of b) seen_u ∙ s.own)) r.legal
    (sym hand_u ∙ r.hand) (ap (λ (x : TokenView). x.opened) is ∙ ap (λ (x : TokenView). x.opened) is_u)
    (ap (λ (x : TokenView). x.post) is ∙ ap (λ (x : TokenView). x.post) is_u) (ap (λ (x : TokenView). x.seen) is)
    (ap (λ (x : TokenView). x.olds) is) (ap (λ (x : TokenView). x.came) is) (ap (λ (x : TokenView). x.hand) is)
    (told ∙ (ap (reply_by b act) (coming.2 ∙ sym still) ∙
    reply_shown (state_after tokens r.log) b act (λ t e. let bad : acts.Arrive ≡ acts.Draw t = sym coming.0 ∙ e in
    absurd cc)))
  where
    coming : (act ≡ acts.Arrive) × (v.came ≡ None) × (shown ≡ OnLine b train)
    coming = coming_is b act v.came shown train h

    is_u : u ≡ view_after tokens b act v s.log (Some train)
    is_u = s.now ∙ ap (view_after tokens b act v s.log) (ap (found_coming b act v.came) (sym there) ∙ h)

    seen_u : u.seen ≡ s.log
    seen_u = ap (λ (x : TokenView). x.seen) is_u

    hand_u : u.hand ≡ v.hand
    hand_u = ap (λ (x : TokenView). x.hand) is_u

    came_u : u.came ≡ Some train
    came_u = ap (λ (x : TokenView). x.came) is_u

    still : shown_after tokens r.log ≡ OnLine b train
    still = subst (λ (c : Option ℕ). IfSome c (λ t. shown_after tokens r.log ≡ OnLine b t)) came_u r.came

    none_more : found_coming b act u.came (shown_after tokens r.log) ≡ None
    none_more = ap (λ (a : TokenAct). found_coming b a u.came (shown_after tokens r.log)) coming.0 ∙
        ap (λ (c : Option ℕ). found_coming b acts.Arrive c (shown_after tokens r.log)) came_u

    is : w ≡ view_after tokens b act u r.log None
    is = r.now ∙ ap (view_after tokens b act u r.log) none_more
