-- Calls are read as they are printed, and each has one spelling.
use Rattle.std.proofs.Common.{◌≡◌, ℕ, zero, suc, ◌+◌, ◌<◌, ◌≤◌, true, false, cond, List, [], ◌∷◌, ◌++◌}
use Rattle.std.proofs.Common.{length, Result, Ok, refl, sym, ap, ◌∙◌, arith, codes, bytes_eq}
use Rattle.std.proofs.Common.{slice_get, decimal}
use Rattle.std.specs.List.{list_all, join_with_byte}
use Rattle.std.proofs.lemmas.Fmt.{decimal_digit}
use Rattle.std.proofs.lemmas.List.{length-append}
use Rattle.std.proofs.lemmas.Slice.Eq.{bytes_eq-Decides}
use Rattle.rail_text.specs.Forms.{is_word, is_skipped}
use Rattle.rail_text.specs.Lines.{words_of}
use Rattle.rail_text.specs.Words.{keyword, number_in}
use Rattle.rail_text.specs.declared.cause.Cause.{Cause}
use Rattle.rail_text.proofs.Binds.{OfOk, bind_keeps, if_keeps, InRange, number_in_is}
use Rattle.rail_text.proofs.PrintedLines.{joined-words_of}
use Rattle.rail_text.proofs.PrintedWords.{words_of-words, decimal_is_word, length-decimal_word, number_in-decimal}
use Rattle.token_law.specs.Law.{IsTokenCall, NamesTrain}
use Rattle.token_law.specs.declared.calls.TokenAct.{TokenAct}
use Rattle.token_law.specs.declared.calls.TokenAct.TheVariants as acts
use Rattle.token_law.specs.declared.calls.TokenCall.{TokenCall}
use Rattle.token_text.specs.Acts.{act_by, act_of, act_words, alone, call_of, call_words, draw_of}
use Rattle.token_text.specs.Acts.{single_word, token_call_text}
use Rattle.token_text.specs.Limits.{last_train}
use Rattle.token_text.specs.Spelled.{MayName}

-- ---- what is read is spelled so

-- an act of these words, which is known
record IsAct (words : List (List ℕ)) (act : TokenAct) : Type 0 where
  pub spelled : words ≡ keyword words ∷ act_words act
  pub names : NamesTrain act
  pub may : MayName act

single_word_is : (box word : List ℕ) (rest : List (List ℕ))
    → OfOk (λ only. rest ≡ only ∷ []) (single_word (slice_get (box ∷ word ∷ rest) 2) (slice_get (box ∷ word ∷ rest) 3))
single_word_is box word [] = tt
single_word_is box word (only ∷ []) = refl
single_word_is box word (only ∷ more ∷ rest) = tt

draw_is : (box word : List ℕ) (rest : List (List ℕ)) → word ≡ codes "draw"
    → OfOk (IsAct (box ∷ word ∷ rest)) (draw_of (box ∷ word ∷ rest))
unfolding draw_of
draw_is box word rest e =
    bind_keeps (λ only. rest ≡ only ∷ []) (IsAct (box ∷ word ∷ rest))
    (single_word (slice_get (box ∷ word ∷ rest) 2) (slice_get (box ∷ word ∷ rest) 3)) _ (single_word_is box word rest)
    (λ only h. bind_keeps (InRange 1 last_train only) (IsAct (box ∷ word ∷ rest)) (number_in 1 last_train only) _
    (number_in_is 1 last_train only) (λ train r. record {
      spelled = ap (λ (ws : List (List ℕ)). box ∷ word ∷ ws) h
          ∙ ap (λ (w : List ℕ). box ∷ word ∷ w ∷ []) r.0
          ∙ ap (λ (w : List ℕ). box ∷ w ∷ decimal train ∷ []) e;
      names = r.1;
      may = r.2;
    }))

alone_is : (act : TokenAct) (box word : List ℕ) (rest : List (List ℕ)) → word ∷ [] ≡ act_words act → NamesTrain act
    → MayName act → OfOk (IsAct (box ∷ word ∷ rest)) (alone act (slice_get (box ∷ word ∷ rest) 2))
alone_is act box word [] e names may =
    record { spelled = ap (λ (ws : List (List ℕ)). box ∷ ws) e; names = names; may = may }
alone_is act box word (more ∷ rest) e names may = tt

-- where the word is the act's, the act is read
by_word : (name : List ℕ) (act : TokenAct) (box word : List ℕ) (rest : List (List ℕ)) (other : Result TokenAct Cause)
    → name ∷ [] ≡ act_words act → NamesTrain act → MayName act → OfOk (IsAct (box ∷ word ∷ rest)) other
    → OfOk (IsAct (box ∷ word ∷ rest))
    (cond (bytes_eq word name) (alone act (slice_get (box ∷ word ∷ rest) 2)) other)
by_word name act box word rest other e names may h =
    if_keeps (IsAct (box ∷ word ∷ rest)) (bytes_eq word name) _ _
    (λ same. alone_is act box word rest
    (ap (λ (w : List ℕ). w ∷ []) ((bytes_eq-Decides word name).0 same) ∙ e) names may) (λ _. h)

act_by_is : (box word : List ℕ) (rest : List (List ℕ))
    → OfOk (IsAct (box ∷ word ∷ rest)) (act_by (box ∷ word ∷ rest) word)
unfolding act_by
act_by_is box word rest =
    if_keeps (IsAct (box ∷ word ∷ rest)) (bytes_eq word (codes "draw")) _ _
    (λ same. draw_is box word rest ((bytes_eq-Decides word (codes "draw")).0 same))
    (λ _. by_word (codes "give") acts.Give box word rest _ refl tt tt
    (by_word (codes "withdraw") acts.Withdraw box word rest _ refl tt tt
    (by_word (codes "depart") acts.Depart box word rest _ refl tt tt
    (by_word (codes "arrive") acts.Arrive box word rest _ refl tt tt
    (by_word (codes "replace") acts.Replace box word rest _ refl tt tt
    (by_word (codes "look") acts.Look box word rest _ refl tt tt tt))))))

act_of_is : (words : List (List ℕ)) → OfOk (IsAct words) (act_of words)
unfolding act_of
act_of_is [] = tt
act_of_is (box ∷ []) = tt
act_of_is (box ∷ word ∷ rest) = act_by_is box word rest

-- a call of these words, which is known
pub record IsCallOf (words : List (List ℕ)) (call : TokenCall) : Type 0 where
  pub spelled : words ≡ call_words call
  pub is : IsTokenCall call
  pub may : MayName call.act

-- words that are read as a call are the words of that call, which may be made
pub call_of_is : (words : List (List ℕ)) → OfOk (IsCallOf words) (call_of words)
unfolding call_of
call_of_is words =
    bind_keeps (InRange 0 1 (keyword words)) (IsCallOf words) (number_in 0 1 (keyword words)) _
    (number_in_is 0 1 (keyword words)) (λ box_no r.
    bind_keeps (IsAct words) (IsCallOf words) (act_of words) _ (act_of_is words) (λ act a. record {
      spelled = a.spelled ∙ ap (λ (w : List ℕ). w ∷ act_words act) r.0;
      is = record { box = omega (arith, r.2); train = a.names };
      may = a.may;
    }))

-- a text that has the words of a call is the text of that call
pub call_text-words : (text : List ℕ) (call : TokenCall) → words_of text ≡ call_words call
    → text ≡ token_call_text call
call_text-words text call e = sym (joined-words_of text) ∙ ap (join_with_byte 32) e

-- ---- what is printed is read

-- a box's number is one digit
box_digit : (call : TokenCall) → IsTokenCall call → decimal call.box_no ≡ (48 + call.box_no) ∷ []
box_digit call is = decimal_digit call.box_no (omega (arith, is.box))

of_two : (P : ℕ → Type 0) (n : ℕ) → n < 2 → P 0 → P 1 → P n
of_two P zero h p q = p
of_two P (suc zero) h p q = q
of_two P (suc (suc n)) h p q = absurd (omega arith)

act_words_are : (act : TokenAct) → MayName act → list_all is_word (act_words act) ≡ true
act_words_are acts.Give h = refl
act_words_are acts.Withdraw h = refl
act_words_are (acts.Draw train) h = let w : is_word (decimal train) ≡ true =
    decimal_is_word train (omega (arith, h)) in rw w refl
act_words_are acts.Depart h = refl
act_words_are acts.Arrive h = refl
act_words_are acts.Replace h = refl
act_words_are acts.Look h = refl

-- each of the words of a call may stand in a line as a word
pub call_words_are : (call : TokenCall) → IsTokenCall call → MayName call.act
    → list_all is_word (call_words call) ≡ true
call_words_are call is may =
    let box : is_word (decimal call.box_no) ≡ true = decimal_is_word call.box_no (omega (arith, is.box)) in
    rw (box, act_words_are call.act may) refl

-- a line that begins with a box's number isn't skipped
pub box_counts : (call : TokenCall) → IsTokenCall call → is_skipped (decimal call.box_no) ≡ false
box_counts call is =
    rw (box_digit call is) (of_two (λ n. is_skipped ((48 + n) ∷ []) ≡ false) call.box_no is.box refl refl)

-- the number of a box isn't `end`
pub box_is_no_end : (call : TokenCall) → IsTokenCall call → bytes_eq (decimal call.box_no) (codes "end") ≡ false
box_is_no_end call is =
    rw (box_digit call is) (of_two (λ n. bytes_eq ((48 + n) ∷ []) (codes "end") ≡ false) call.box_no is.box refl refl)

-- the text of a call has the words of the call
pub words_of-call : (call : TokenCall) → IsTokenCall call → MayName call.act
    → words_of (token_call_text call) ≡ call_words call
words_of-call call is may = words_of-words (decimal call.box_no) (act_words call.act) (call_words_are call is may)

act_read : (box : List ℕ) (act : TokenAct) → NamesTrain act → MayName act → act_of (box ∷ act_words act) ≡ Ok act
unfolding act_of act_by draw_of
act_read box acts.Give n h = refl
act_read box acts.Withdraw n h = refl
act_read box (acts.Draw train) n h = rw (number_in-decimal 1 last_train train n h (omega (arith, h))) refl
act_read box acts.Depart n h = refl
act_read box acts.Arrive n h = refl
act_read box acts.Replace n h = refl
act_read box acts.Look n h = refl

-- the words of a call are read as that call
pub call_read : (call : TokenCall) → IsTokenCall call → MayName call.act → call_of (call_words call) ≡ Ok call
unfolding call_of
call_read call is may =
    let box : number_in 0 1 (decimal call.box_no) ≡ Ok call.box_no =
    number_in-decimal 0 1 call.box_no (omega arith) (omega (arith, is.box)) (omega (arith, is.box)) in
    rw (box, act_read (decimal call.box_no) call.act is.train may) refl

length-act : (act : TokenAct) → MayName act → length (join_with_byte 32 (act_words act)) ≤ 15
length-act acts.Give h = omega arith
length-act acts.Withdraw h = omega arith
length-act (acts.Draw train) h =
    omega (arith, length-append (codes "draw") (32 ∷ decimal train), length-decimal_word train (omega (arith, h)))
length-act acts.Depart h = omega arith
length-act acts.Arrive h = omega arith
length-act acts.Replace h = omega arith
length-act acts.Look h = omega arith

joined_behind : (box : List ℕ) (act : TokenAct)
    → join_with_byte 32 (box ∷ act_words act) ≡ box ++ 32 ∷ join_with_byte 32 (act_words act)
joined_behind box acts.Give = refl
joined_behind box acts.Withdraw = refl
joined_behind box (acts.Draw train) = refl
joined_behind box acts.Depart = refl
joined_behind box acts.Arrive = refl
joined_behind box acts.Replace = refl
joined_behind box acts.Look = refl

-- the text of a call has at most 20 bytes
pub length-call : (call : TokenCall) → IsTokenCall call → MayName call.act → length (token_call_text call) ≤ 20
length-call call is may =
    let box : length (decimal call.box_no) ≡ 1 = ap length (box_digit call is) in
    rw (joined_behind (decimal call.box_no) call.act)
    (omega (
      arith,
      length-append (decimal call.box_no) (32 ∷ join_with_byte 32 (act_words call.act)),
      box,
      length-act call.act may,
    ))
