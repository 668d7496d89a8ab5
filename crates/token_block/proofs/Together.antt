-- Two men who work a list of calls together.
use Rattle.std.proofs.Common.{◌≡◌, ◌≢◌, ℕ, zero, suc, ◌+◌, ◌-◌, ◌<◌, ◌≤◌, List, [], ◌∷◌, ◌++◌, length, take}
use Rattle.std.proofs.Common.{get_or, sym, refl}
use Rattle.std.proofs.Common.{ap, ◌∙◌, subst, arith, length-append}
use mathlib.Core.List.{IsPrefix}
use Rattle.std.proofs.lemmas.List.{take_more}
use Rattle.atomic_table.specs.Seated.{TableId}
use Rattle.token_law.specs.declared.calls.TokenAct.{TokenAct}
use Rattle.token_law.specs.declared.calls.TokenCall.{TokenCall}
use Rattle.token_law.specs.declared.calls.TokenEntry.{TokenEntry}
use Rattle.token_law.specs.declared.calls.TokenReply.{TokenReply}
use Rattle.token_law.specs.History.{AreTokenCalls, IsTokenHistoryFrom, after_token_entry, told_from, told_of}
use Rattle.token_law.specs.History.{token_entry_of, token_part_of, tokens_after}
use Rattle.token_law.specs.Law.{IsTokenCall}
use Rattle.token_law.specs.States.{TokenState, opening_tokens, out_by, tokens_at}
use Rattle.token_law.proofs.Histories.{calls_are_told, token_entry_determined}
use Rattle.token_law.proofs.Tokens.{tokens_stay}
use Rattle.token_block.specs.declared.view.Tokens.{Tokens}
use Rattle.token_block.specs.Men.{IsFresh, IsOf, Man, HaveMet, Performed, SawMore, answered}
use Rattle.token_block.specs.Rule.{IsHistoryOf}
use Rattle.token_block.specs.Steps.{entry_after, state_after, with_call}
use Rattle.token_block.specs.Working.{AreTogether}
use Rattle.token_block.proofs.Parts.{Es, added_none, part-append, part_other, part_own, prefix_trans}

-- ---- entries of one box

legal_rest : (st : TokenState) (es more : Es) → IsTokenHistoryFrom st (es ++ more)
    → IsTokenHistoryFrom (tokens_after st es) more
legal_rest st [] more h = h
legal_rest st (e ∷ es) more h = legal_rest (after_token_entry st e) es more h.2

-- b is the box that isn't o
abbrev IsOther : ℕ → ℕ → Type 0
IsOther b o = (x : ℕ) → x < 2 → x ≢ o → x ≡ b

-- where the one box has no entry, all are the other's
alone : (b o : ℕ) → IsOther b o → (st : TokenState) (es : Es) → IsTokenHistoryFrom st es → token_part_of o es ≡ []
    → token_part_of b es ≡ es
alone b o two st [] legal h = refl
alone b o two st (e ∷ es) legal h =
    let other : e.call.box_no ≢ o = λ is. (let own = part_own o e es is in absurd cc) in
    let is = two e.call.box_no legal.0.box other in
    part_own b e es is ∙ ap (λ (l : Es). e ∷ l)
    (alone b o two (after_token_entry st e) es legal.2 (sym (part_other o e es other) ∙ h))

drop_same : (a b c : Es) → a ++ b ≡ a ++ c → b ≡ c
drop_same [] b c e = e
drop_same (x ∷ a) b c e = drop_same a b c (cc)

-- what was seen at a meeting after one call is what had been done, and that call
pub one_more : (tokens : Tokens) (b o : ℕ) (act : TokenAct) (reply : TokenReply) (done s m : Es) → IsOther b o
    → Performed tokens b act reply done s → IsHistoryOf tokens m → SawMore b s m → SawMore o done m
    → (m ≡ with_call tokens done b act) × (reply ≡ (entry_after tokens done b act).reply)
one_more tokens b o act reply done s m two p legal mine theirs =
    let pre : IsPrefix done m = prefix_trans done s m p.begins mine.begins in
    let whole : done ++ pre.0 ≡ m = pre.1 in
    let none : token_part_of o pre.0 ≡ [] =
    added_none o done pre.0 (ap (token_part_of o) whole ∙ theirs.own) in
    let own : token_part_of b pre.0 ≡ answered b act reply ∷ [] =
    drop_same (token_part_of b done) (token_part_of b pre.0) (answered b act reply ∷ [])
    (sym (part-append b done pre.0) ∙ (ap (token_part_of b) whole ∙ (mine.own ∙ p.grew))) in
    let legal' : IsHistoryOf tokens (done ++ pre.0) = subst (IsHistoryOf tokens) (sym whole) legal in
    let rest : pre.0 ≡ answered b act reply ∷ [] =
    sym (alone b o two (tokens_after (opening_tokens tokens.at_0 tokens.at_1) done) pre.0
    (legal_rest (opening_tokens tokens.at_0 tokens.at_1) done pre.0 legal') none) ∙ own in
    let m_is : m ≡ done ++ answered b act reply ∷ [] = sym whole ∙ ap (λ (l : Es). done ++ l) rest in
    let told : answered b act reply ≡ entry_after tokens done b act =
    (token_entry_determined tokens.at_0 tokens.at_1 done [] (answered b act reply)
    (subst (IsHistoryOf tokens) m_is legal)).1 in
    (m_is ∙ ap (λ (e : TokenEntry). done ++ e ∷ []) told, ap (λ (e : TokenEntry). e.reply) told)

pub first_is : IsOther 0 1
first_is x h ne = omega (arith, h, ne)

pub second_is : IsOther 1 0
second_is x h ne = omega (arith, h, ne)

-- ---- two men after a meeting

module _ (table_id : TableId) (tokens : Tokens) where
  met_together : (new : Es) (one other one' other' : Man) (met : HaveMet tokens one other one' other')
      → IsOf table_id tokens one → IsOf table_id tokens other → one.box_no ≡ 0 → other.box_no ≡ 1
      → one.calls ≤ length new → other.calls ≤ length new → met.seen ≡ new
      → AreTogether table_id tokens new one' other'
  met_together new one other one' other' met one_of other_of zero_is one_is first second seen = record {
    one_of = subst (IsOf table_id tokens) (sym met.one_is) one_of;
    other_of = subst (IsOf table_id tokens) (sym met.other_is) other_of;
    one_box = ap (λ (m : Man). m.box_no) met.one_is ∙ zero_is;
    other_box = ap (λ (m : Man). m.box_no) met.other_is ∙ one_is;
    one_seen = ap (λ (m : Man). m.view.seen) met.one_is ∙ seen;
    other_seen = ap (λ (m : Man). m.view.seen) met.other_is ∙ seen;
    one_calls = subst (λ (m : Man). m.calls ≤ length new) (sym met.one_is) first;
    other_calls = subst (λ (m : Man). m.calls ≤ length new) (sym met.other_is) second;
  }

  -- at the opening
  pub starts : (one other one' other' : Man) → IsFresh table_id tokens 0 one → IsFresh table_id tokens 1 other
      → HaveMet tokens one other one' other' → AreTogether table_id tokens [] one' other'
  starts one other one' other' f g met = met_together [] one other one' other' met f.of_line g.of_line f.box_no g.box_no
      (let n = f.calls in omega (arith, n)) (let n = g.calls in omega (arith, n)) nothing
    where
      first : token_part_of 0 met.seen ≡ []
      first = subst (λ (b : ℕ). token_part_of b met.seen ≡ token_part_of b one.view.seen) f.box_no met.mine.own ∙
          ap (token_part_of 0) f.seen

      second : token_part_of 1 met.seen ≡ []
      second = subst (λ (b : ℕ). token_part_of b met.seen ≡ token_part_of b other.view.seen) g.box_no met.theirs.own ∙
          ap (token_part_of 1) g.seen

      nothing : met.seen ≡ []
      nothing = sym (alone 0 1 first_is (opening_tokens tokens.at_0 tokens.at_1) met.seen met.legal second) ∙ first

  -- after a call of the first man
  pub first_called : (done : Es) (one other one' one'' other' : Man) (act : TokenAct) (reply : TokenReply)
      → AreTogether table_id tokens done one other → IsOf table_id tokens one' → one'.box_no ≡ one.box_no
      → Performed tokens one.box_no act reply one.view.seen one'.view.seen → one'.calls ≡ one.calls + 1
      → HaveMet tokens one' other one'' other'
      → AreTogether table_id tokens (with_call tokens done 0 act) one'' other'
      × (reply ≡ (entry_after tokens done 0 act).reply)
  first_called done one other one' one'' other' act reply at one_of same_box performed calls met =
      let box : one'.box_no ≡ 0 = same_box ∙ at.one_box in
      let p : Performed tokens 0 act reply done one'.view.seen =
      subst (λ (s : Es). Performed tokens 0 act reply s one'.view.seen) at.one_seen
      (subst (λ (b : ℕ). Performed tokens b act reply one.view.seen one'.view.seen) at.one_box performed) in
      let mine : SawMore 0 one'.view.seen met.seen =
      subst (λ (b : ℕ). SawMore b one'.view.seen met.seen) box met.mine in
      let theirs : SawMore 1 done met.seen =
      subst (λ (s : Es). SawMore 1 s met.seen) at.other_seen
      (subst (λ (b : ℕ). SawMore b other.view.seen met.seen) at.other_box met.theirs) in
      let more = one_more tokens 0 1 act reply done one'.view.seen met.seen first_is p met.legal mine theirs in
      let l = length-append done (entry_after tokens done 0 act ∷ []) in
      let n = at.one_calls in
      let k = at.other_calls in (
        met_together (with_call tokens done 0 act) one' other one'' other' met one_of at.other_of box at.other_box
            (omega (arith, l, n, calls)) (omega (arith, l, k)) more.0,
        more.1,
      )

  -- after a call of the second
  pub second_called : (done : Es) (one other other' one'' other'' : Man) (act : TokenAct) (reply : TokenReply)
      → AreTogether table_id tokens done one other → IsOf table_id tokens other' → other'.box_no ≡ other.box_no
      → Performed tokens other.box_no act reply other.view.seen other'.view.seen → other'.calls ≡ other.calls + 1
      → HaveMet tokens one other' one'' other''
      → AreTogether table_id tokens (with_call tokens done 1 act) one'' other''
      × (reply ≡ (entry_after tokens done 1 act).reply)
  second_called done one other other' one'' other'' act reply at other_of same_box performed calls met =
      let box : other'.box_no ≡ 1 = same_box ∙ at.other_box in
      let p : Performed tokens 1 act reply done other'.view.seen =
      subst (λ (s : Es). Performed tokens 1 act reply s other'.view.seen) at.other_seen
      (subst (λ (b : ℕ). Performed tokens b act reply other.view.seen other'.view.seen) at.other_box performed) in
      let theirs : SawMore 1 other'.view.seen met.seen =
      subst (λ (b : ℕ). SawMore b other'.view.seen met.seen) box met.theirs in
      let mine : SawMore 0 done met.seen =
      subst (λ (s : Es). SawMore 0 s met.seen) at.one_seen
      (subst (λ (b : ℕ). SawMore b one.view.seen met.seen) at.one_box met.mine) in
      let more = one_more tokens 1 0 act reply done other'.view.seen met.seen second_is p met.legal theirs mine in
      let l = length-append done (entry_after tokens done 1 act ∷ []) in
      let n = at.other_calls in
      let k = at.one_calls in (
        met_together (with_call tokens done 1 act) one other' one'' other'' met at.one_of other_of at.one_box box
            (omega (arith, l, k)) (omega (arith, l, n, calls)) more.0,
        more.1,
      )

-- ---- calls one by one

told_push : (st : TokenState) (cs : List TokenCall) (c : TokenCall) → told_from st (cs ++ c ∷ [])
    ≡ told_from st cs ++ token_entry_of (tokens_after st (told_from st cs)) c ∷ []
told_push st [] c = refl
told_push st (d ∷ cs) c = ap (λ (l : Es). token_entry_of st d ∷ l) (told_push (told_of st d).after cs c)

pub told_more : (st : TokenState) (cs : List TokenCall) (i : ℕ) (d : TokenCall) → i < length cs
    → told_from st (take (i + 1) cs)
    ≡ told_from st (take i cs) ++ token_entry_of (tokens_after st (told_from st (take i cs))) (get_or cs i d) ∷ []
told_more st cs i d h = ap (told_from st) (take_more cs i d h) ∙ told_push st (take i cs) (get_or cs i d)

-- each of these calls may be made
pub call_at : (cs : List TokenCall) (i : ℕ) (d : TokenCall) → AreTokenCalls cs → i < length cs
    → IsTokenCall (get_or cs i d)
call_at [] i d h lt = absurd (omega arith)
call_at (c ∷ cs) zero d h lt = h.0
call_at (c ∷ cs) (suc i) d h lt = call_at cs i d h.1 (omega arith)

pub told_length : (st : TokenState) (cs : List TokenCall) → length (told_from st cs) ≡ length cs
told_length st [] = refl
told_length st (c ∷ cs) = let r = told_length (told_of st c).after cs in omega (arith, r)

length_take : {A : Type 0} (xs : List A) (i : ℕ) → length (take i xs) ≤ i
length_take xs zero = omega arith
length_take [] (suc i) = omega arith
length_take (x ∷ xs) (suc i) = let r = length_take xs i in omega (arith, r)

-- fewer calls are done than there are
pub few_done : (st : TokenState) (cs : List TokenCall) (i : ℕ) (done : Es) → done ≡ told_from st (take i cs)
    → i < length cs → length cs ≤ 4000000000 → length done < 4000000000
few_done st cs i done is lt few = let l = ap length is in let t = told_length st (take i cs) in
    let k = length_take cs i in omega (arith, l, t, k, lt, few)

-- one call more, with its reply
pub next_entry : (tokens : Tokens) (done : Es) (call : TokenCall) (reply : TokenReply)
    → reply ≡ (entry_after tokens done call.box_no call.act).reply
    → done ++ record { call = call; reply = reply } ∷ [] ≡ with_call tokens done call.box_no call.act
next_entry tokens done call reply told = ap (λ (r : TokenReply). done ++ record { call = call; reply = r } ∷ []) told

-- the history of the first calls, with the next call, is the history of one call more
pub next_told : (tokens : Tokens) (cs : List TokenCall) (i : ℕ) (d : TokenCall) (done : Es) → i < length cs
    → done ≡ told_from (opening_tokens tokens.at_0 tokens.at_1) (take i cs)
    → with_call tokens done (get_or cs i d).box_no (get_or cs i d).act
    ≡ told_from (opening_tokens tokens.at_0 tokens.at_1) (take (i + 1) cs)
next_told tokens cs i d done lt is =
    let st = opening_tokens tokens.at_0 tokens.at_1 in
    ap (λ (es : Es). es ++ token_entry_of (tokens_after st es) (get_or cs i d) ∷ []) is ∙
    sym (told_more st cs i d lt)

-- ---- the end

-- the tokens that the men tell are those after the calls, and the others are out
pub record Told (tokens : Tokens) (es : Es) (a b all : ℕ) : Type 0 where
  pub first : a ≡ (state_after tokens es).at_0
  pub second : b ≡ (state_after tokens es).at_1
  pub out : all - a - b ≡ out_by (state_after tokens es).shown
  pub few : a ≤ all
  pub rest : b ≤ all - a

-- once two men have worked all calls, each tells the tokens in his instrument, and the others are out
pub tokens_told : (table_id : TableId) (tokens : Tokens) (es : Es) (one other : Man) (cs : List TokenCall)
    (a b all : ℕ) → AreTogether table_id tokens es one other
    → es ≡ told_from (opening_tokens tokens.at_0 tokens.at_1) cs → AreTokenCalls cs
    → a ≡ tokens_at (state_after tokens one.view.seen) one.box_no
    → b ≡ tokens_at (state_after tokens other.view.seen) other.box_no → all ≡ tokens.at_0 + tokens.at_1
    → Told tokens es a b all
tokens_told table_id tokens es one other cs a b all at told may first second whole =
    let a_is : a ≡ (state_after tokens es).at_0 = first ∙
    (ap (λ (n : ℕ). tokens_at (state_after tokens one.view.seen) n) at.one_box ∙
    ap (λ (s : Es). (state_after tokens s).at_0) at.one_seen) in
    let b_is : b ≡ (state_after tokens es).at_1 = second ∙
    (ap (λ (n : ℕ). tokens_at (state_after tokens other.view.seen) n) at.other_box ∙
    ap (λ (s : Es). (state_after tokens s).at_1) at.other_seen) in
    let legal : IsHistoryOf tokens es = subst (IsHistoryOf tokens) (sym told)
    (calls_are_told tokens.at_0 tokens.at_1 cs may) in
    let stay = tokens_stay tokens.at_0 tokens.at_1 es legal in record {
      first = a_is;
      second = b_is;
      out = omega (arith, a_is, b_is, stay, whole);
      few = omega (arith, a_is, b_is, stay, whole);
      rest = omega (arith, a_is, b_is, stay, whole);
    }
