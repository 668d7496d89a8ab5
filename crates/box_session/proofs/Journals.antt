-- The journal of a session, by one call of the man after another.
use Rattle.std.proofs.Common.{◌≡◌, ℕ, zero, suc, ◌+◌, ◌<◌, ◌≤◌, List, [], ◌∷◌, ◌++◌, Option, Some, None, length}
use Rattle.std.proofs.Common.{drop, refl, sym, ap, subst, ◌∙◌, arith, append_assoc}
use Rattle.std.proofs.lemmas.List.{append-nil}
use Rattle.line_plan.specs.Plans.{IsPlan, PlanFields}
use Rattle.line_law.specs.declared.call.Call.{Call}
use Rattle.line_law.specs.declared.call.Entry.{Entry}
use Rattle.line_law.specs.History.{entry_of, state_of}
use Rattle.line_law.specs.Law.{MayCall, step}
use Rattle.line_law.specs.Serial.{AreCalls, AreScripts, calls_left, count_left, first_free}
use Rattle.line_law.specs.States.{LineState, opening_state}
use Rattle.line_law.proofs.Histories.{state_grows}
use Rattle.line_law.proofs.Left.{count_next}
use Rattle.line_rehearsal.specs.Rehearsals.{left_after, left_then}
use Rattle.line_rehearsal.proofs.Free.{all_stopped}
use Rattle.box_session.specs.Others.{call_from, others_from}
use Rattle.box_session.specs.Sessions.{IsSession, last_moment, session_journal, with_call, with_calls}
use Rattle.box_session.proofs.GoingOn.{free_next, others_next, others_none}
use Rattle.box_session.proofs.SoFar.{IsSoFar, his_more, idle_then, last_more, left_more, other_more, so_far_begins}

-- a session as far as it has come, where no other box may go on
pub record IsSettled (plan : PlanFields) (scripts : List (List Call)) (b : ℕ) (calls : List Call) (es : List Entry)
    : Type 0 where
  pub so_far : IsSoFar plan scripts b calls es
  pub none : first_free plan (state_of plan es) 0 (left_after scripts es) ≡ None

-- ---- the others go on

-- a journal, and behind it what they do
abbrev behind : PlanFields → List (List Call) → List Entry → List Entry
behind plan scripts es = es ++ others_from plan (state_of plan es) (left_after scripts es)

-- the next of them makes its call, and then they go on
behind_next : (plan : PlanFields) (scripts : List (List Call)) (c : ℕ) (es : List Entry) (call : Call)
    → first_free plan (state_of plan es) 0 (left_after scripts es) ≡ Some c
    → calls_left (left_after scripts es) c ≡ call ∷ drop 1 (calls_left (left_after scripts es) c)
    → behind plan scripts es ≡ behind plan scripts (es ++ entry_of plan (state_of plan es) c call ∷ [])
behind_next plan scripts c es call free is =
    let state = state_of plan es in
    let left = left_after scripts es in
    let e = entry_of plan state c call in
    let more = es ++ e ∷ [] in
    let grown : state_of plan more ≡ (step plan state c call).after = state_grows plan es e in
    let fewer : left_after scripts more ≡ left_then left c = left_more scripts es e in
    ap (λ (xs : List Entry). es ++ xs) (others_next plan state left c call free is)
    ∙ sym (append_assoc es (e ∷ []) (others_from plan (step plan state c call).after (left_then left c)))
    ∙ ap (λ (s : LineState). more ++ others_from plan s (left_then left c)) (sym grown)
    ∙ ap (λ (l : List (List Call)). more ++ others_from plan (state_of plan more) l) (sym fewer)

-- where none may go on, nothing stands behind it
nothing_behind : (plan : PlanFields) (scripts : List (List Call)) (es : List Entry)
    → first_free plan (state_of plan es) 0 (left_after scripts es) ≡ None → behind plan scripts es ≡ es
nothing_behind plan scripts es none =
    ap (λ (xs : List Entry). es ++ xs) (others_none plan (state_of plan es) (left_after scripts es) none)
    ∙ append-nil es

-- where the next of them makes its call, the rest follows
settles_on : (plan : PlanFields) (scripts : List (List Call)) (b : ℕ) (calls : List Call) (n : ℕ) (es : List Entry)
    (o : Option ℕ) → first_free plan (state_of plan es) 0 (left_after scripts es) ≡ o
    → count_left (left_after scripts es) ≡ n → IsSoFar plan scripts b calls es
    → ((more : List Entry) → count_left (left_after scripts more) + 1 ≡ n → IsSoFar plan scripts b calls more
    → IsSettled plan scripts b calls (behind plan scripts more))
    → IsSettled plan scripts b calls (behind plan scripts es)
settles_on plan scripts b calls n es None none counted h later =
    subst (λ (xs : List Entry). IsSettled plan scripts b calls xs) (sym (nothing_behind plan scripts es none))
    (record { so_far = h; none = none })
settles_on plan scripts b calls n es (Some c) free counted h later =
    let left = left_after scripts es in
    let next = free_next plan (state_of plan es) left c free in
    let e = entry_of plan (state_of plan es) c next.call in
    let fewer = count_next left c next.call (drop 1 (calls_left left c)) next.is in
    let rest : count_left (left_after scripts (es ++ e ∷ [])) + 1 ≡ n =
    rw (left_more scripts es e) (omega (arith, fewer, counted)) in
    subst (λ (xs : List Entry). IsSettled plan scripts b calls xs)
    (sym (behind_next plan scripts c es next.call free next.is))
    (later (es ++ e ∷ []) rest (other_more plan scripts b c calls es next.call h free next.is))

settles : (plan : PlanFields) (scripts : List (List Call)) (b : ℕ) (calls : List Call) (n : ℕ) (es : List Entry)
    → count_left (left_after scripts es) ≡ n → IsSoFar plan scripts b calls es
    → IsSettled plan scripts b calls (behind plan scripts es)
settles plan scripts b calls zero es counted h =
    settles_on plan scripts b calls zero es (first_free plan (state_of plan es) 0 (left_after scripts es)) refl counted
    h (λ more none so_far. absurd (omega arith))
settles plan scripts b calls (suc n) es counted h =
    settles_on plan scripts b calls (suc n) es (first_free plan (state_of plan es) 0 (left_after scripts es)) refl
    counted h (λ more rest so_far. settles plan scripts b calls n more (omega (arith, rest)) so_far)

-- ---- he calls, and they go on

called : (plan : PlanFields) (scripts : List (List Call)) (b : ℕ) (es : List Entry) (call : Call)
    → calls_left (left_after scripts es) b ≡ []
    → with_call plan scripts b es call ≡ behind plan scripts (es ++ entry_of plan (state_of plan es) b call ∷ [])
unfolding call_from
called plan scripts b es call idle =
    let state = state_of plan es in
    let left = left_after scripts es in
    let e = entry_of plan state b call in
    let more = es ++ e ∷ [] in
    let grown : state_of plan more ≡ (step plan state b call).after = state_grows plan es e in
    let same : left_after scripts more ≡ left = left_more scripts es e ∙ idle_then left b idle in
    sym (append_assoc es (e ∷ []) (others_from plan (step plan state b call).after left))
    ∙ ap (λ (s : LineState). more ++ others_from plan s left) (sym grown)
    ∙ ap (λ (l : List (List Call)). more ++ others_from plan (state_of plan more) l) (sym same)

-- where no other box may go on, the man makes a call and they go on, until again none may
pub settled_call : (plan : PlanFields) (scripts : List (List Call)) (b : ℕ) (calls : List Call) (es : List Entry)
    (call : Call) → b < length plan.boxes → MayCall plan (state_of plan es) b call
    → IsSettled plan scripts b calls es
    → IsSettled plan scripts b (calls ++ call ∷ []) (with_call plan scripts b es call)
settled_call plan scripts b calls es call within may h =
    let more = es ++ entry_of plan (state_of plan es) b call ∷ [] in
    let later : last_moment calls ≤ call.moment = omega (arith, h.so_far.moment, may.later) in
    subst (λ (xs : List Entry). IsSettled plan scripts b (calls ++ call ∷ []) xs)
    (sym (called plan scripts b es call h.so_far.idle))
    (settles plan scripts b (calls ++ call ∷ []) (count_left (left_after scripts more)) more refl
    (his_more plan scripts b calls es call h.so_far h.none within may.known later))

-- he makes one call after another
settled_calls : (plan : PlanFields) (scripts : List (List Call)) (b : ℕ) (done calls : List Call) (es : List Entry)
    → b < length plan.boxes → AreCalls plan b (last_moment done) calls → IsSettled plan scripts b done es
    → IsSettled plan scripts b (done ++ calls) (with_calls plan scripts b es calls)
settled_calls plan scripts b done [] es within may h =
    subst (λ (cs : List Call). IsSettled plan scripts b cs es) (sym (append-nil done)) h
settled_calls plan scripts b done (call ∷ calls) es within may h =
    let here : MayCall plan (state_of plan es) b call =
    record { known = may.0; later = omega (arith, h.so_far.moment, may.1) } in
    let one = settled_call plan scripts b done es call within here h in
    let from : AreCalls plan b (last_moment (done ++ call ∷ [])) calls =
    subst (λ (m : ℕ). AreCalls plan b m calls) (sym (last_more done call)) may.2 in
    subst (λ (cs : List Call). IsSettled plan scripts b cs (with_calls plan scripts b es (call ∷ calls)))
    (append_assoc done (call ∷ []) calls)
    (settled_calls plan scripts b (done ++ call ∷ []) calls (with_call plan scripts b es call) within from one)

-- ---- the journal of a session

-- the journal of a session is made of the man's calls and the others' scripts, and no other box may go on at its
-- end
pub settled : (plan : PlanFields) (scripts : List (List Call)) (b : ℕ) (calls : List Call) → AreScripts plan scripts
    → b < length plan.boxes → calls_left scripts b ≡ [] → AreCalls plan b 0 calls
    → IsSettled plan scripts b calls (session_journal plan scripts b calls)
unfolding session_journal
settled plan scripts b calls own within idle may =
    settled_calls plan scripts b [] calls (others_from plan (opening_state plan) scripts) within may
    (settles plan scripts b [] (count_left scripts) [] refl (so_far_begins plan scripts b own idle))

-- the journal of a session is legal, has the man's calls and the others' scripts, and each entry stands in its turn
pub session_is : (plan : PlanFields) (scripts : List (List Call)) (b : ℕ) (calls : List Call) → IsPlan plan
    → AreScripts plan scripts → b < length plan.boxes → calls_left scripts b ≡ [] → AreCalls plan b 0 calls
    → IsSession plan scripts b calls (session_journal plan scripts b calls)
session_is plan scripts b calls is own within idle may =
    let journal = session_journal plan scripts b calls in
    let h = settled plan scripts b calls own within idle may in
    record {
      legal = h.so_far.legal;
      his = h.so_far.his;
      moment = h.so_far.moment;
      others = h.so_far.others;
      turns = h.so_far.turns;
      stopped = all_stopped plan (state_of plan journal) (left_after scripts journal) h.none;
    }

one_more : (plan : PlanFields) (scripts : List (List Call)) (b : ℕ) (calls : List Call) (call : Call) (es : List Entry)
    → with_calls plan scripts b es (calls ++ call ∷ [])
    ≡ with_call plan scripts b (with_calls plan scripts b es calls) call
one_more plan scripts b [] call es = refl
one_more plan scripts b (first ∷ calls) call es =
    one_more plan scripts b calls call (with_call plan scripts b es first)

-- a call more of the man makes the journal longer by that call and what the others do behind it
pub session_grows : (plan : PlanFields) (scripts : List (List Call)) (b : ℕ) (calls : List Call) (call : Call)
    → session_journal plan scripts b (calls ++ call ∷ [])
    ≡ with_call plan scripts b (session_journal plan scripts b calls) call
unfolding session_journal
session_grows plan scripts b calls call =
    one_more plan scripts b calls call (others_from plan (opening_state plan) scripts)
