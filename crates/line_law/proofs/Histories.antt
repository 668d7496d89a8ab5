-- Legal histories: how they grow, their prefixes, and the runs that make them.
use Rattle.std.proofs.Common.{◌≡◌, ℕ, ◌+◌, List, [], ◌∷◌, ◌++◌, length, map, take, drop, refl, sym, ap, subst, ◌∙◌}
use Rattle.std.proofs.Common.{arith}
use Rattle.std.proofs.lemmas.List.{take-append-drop}
use Rattle.line_plan.specs.Plans.{PlanFields}
use Rattle.line_law.specs.declared.call.Call.{Call}
use Rattle.line_law.specs.declared.call.Entry.{Entry}
use Rattle.line_law.specs.declared.call.Reply.{Reply}
use Rattle.line_law.specs.States.{LineState, IsStateOf, opening_state}
use Rattle.line_law.specs.Law.{Done, step}
use Rattle.line_law.specs.Lines.{PlainState}
use Rattle.line_law.specs.Law.{MayCall}
use Rattle.line_law.proofs.Keeping.{shape_stays}
use Rattle.line_law.proofs.Opens.{opening_shape}
use Rattle.line_law.specs.History.{IsLegalFrom, IsLegal, IsRun, Performs, after_entry, asked, entry_of, opened}
use Rattle.line_law.specs.History.{state_after, state_of}

-- ---- two histories, one after the other

-- two parts of a history that are legal in turn are legal together
pub legal_both : (plan : PlanFields) (state : LineState) (es more : List Entry) → IsLegalFrom plan state es
    → IsLegalFrom plan (state_after plan state es) more → IsLegalFrom plan state (es ++ more)
legal_both plan state [] more h k = k
legal_both plan state (e ∷ es) more h k = (h.0, h.1, legal_both plan (after_entry plan state e) es more h.2 k)

-- the first part of a legal history is legal
pub legal_first : (plan : PlanFields) (state : LineState) (es more : List Entry) → IsLegalFrom plan state (es ++ more)
    → IsLegalFrom plan state es
legal_first plan state [] more h = tt
legal_first plan state (e ∷ es) more h = (h.0, h.1, legal_first plan (after_entry plan state e) es more h.2)

-- the later part of a legal history is legal from where the first part ends
pub legal_then : (plan : PlanFields) (state : LineState) (es more : List Entry) → IsLegalFrom plan state (es ++ more)
    → IsLegalFrom plan (state_after plan state es) more
legal_then plan state [] more h = h
legal_then plan state (e ∷ es) more h = legal_then plan (after_entry plan state e) es more h.2

-- two parts of a history lead where the second leads from the end of the first
pub state_both : (plan : PlanFields) (state : LineState) (es more : List Entry)
    → state_after plan state (es ++ more) ≡ state_after plan (state_after plan state es) more
state_both plan state [] more = refl
state_both plan state (e ∷ es) more = state_both plan (after_entry plan state e) es more

-- ---- entries that are one

abbrev made : ℕ → Call → Reply → Entry
made b call reply = record { box_no = b; call = call; reply = reply }

same_entry : (b c : ℕ) (call next : Call) (reply other : Reply) → b ≡ c → call ≡ next → reply ≡ other
    → made b call reply ≡ made c next other
same_entry b c call next reply other e f g =
    ap (λ (x : ℕ). made x call reply) e ∙ ap (λ (x : Call). made c x reply) f ∙ ap (λ (x : Reply). made c next x) g

same_rest : (plan : PlanFields) (state : LineState) (es others : List Entry) → IsLegalFrom plan state es
    → IsLegalFrom plan state others → map (λ e. asked e) es ≡ map (λ e. asked e) others → es ≡ others
same_rest plan state [] [] h k e = refl
same_rest plan state [] (f ∷ others) h k e = absurd cc
same_rest plan state (d ∷ es) [] h k e = absurd cc
same_rest plan state (d ∷ es) (f ∷ others) h k e =
    let heads : asked d ≡ asked f = cc in
    let boxes : d.box_no ≡ f.box_no = ap (λ (a : ℕ × Call). a.0) heads in
    let calls : d.call ≡ f.call = ap (λ (a : ℕ × Call). a.1) heads in
    let tails : map (λ x. asked x) es ≡ map (λ x. asked x) others = cc in
    let replies : d.reply ≡ f.reply = h.1 ∙ ap (λ (a : ℕ × Call). (step plan state a.0 a.1).reply) heads ∙ sym k.1 in
    let same : d ≡ f = same_entry d.box_no f.box_no d.call f.call d.reply f.reply boxes calls replies in
    let rest : es ≡ others =
    same_rest plan (after_entry plan state d) es others h.2
    (subst (λ (x : Entry). IsLegalFrom plan (after_entry plan state x) others) (sym same) k.2) tails in
    ap (λ (x : Entry). x ∷ es) same ∙ ap (λ (xs : List Entry). f ∷ xs) rest

-- ---- the laws

-- a legal history grows by any call that may be made
pub history_grows : (plan : PlanFields) (es : List Entry) (b : ℕ) (call : Call) → IsLegal plan es
    → MayCall plan (state_of plan es) b call → IsLegal plan (es ++ entry_of plan (state_of plan es) b call ∷ [])
history_grows plan es b call h may =
    legal_both plan (opening_state plan) es (entry_of plan (state_of plan es) b call ∷ []) h (may, refl, tt)

-- one entry more leads one call further
pub state_grows : (plan : PlanFields) (es : List Entry) (e : Entry)
    → state_of plan (es ++ e ∷ []) ≡ (step plan (state_of plan es) e.box_no e.call).after
state_grows plan es e = state_both plan (opening_state plan) es (e ∷ [])

-- each beginning of a legal history is legal
pub prefix_legal : (plan : PlanFields) (es more : List Entry) → IsLegal plan (es ++ more) → IsLegal plan es
prefix_legal plan es more h = legal_first plan (opening_state plan) es more h

-- the first entries of a legal history are legal
pub legal_front : (plan : PlanFields) (es : List Entry) (n : ℕ) → IsLegal plan es → IsLegal plan (take n es)
legal_front plan es n legal =
    prefix_legal plan (take n es) (drop n es)
    (subst (λ (all : List Entry). IsLegal plan all) (sym (take-append-drop n es)) legal)

-- each entry of a legal history is a call that might be made there, with the reply of the law
pub entry_determined : (plan : PlanFields) (es more : List Entry) (e : Entry) → IsLegal plan (es ++ e ∷ more)
    → MayCall plan (state_of plan es) e.box_no e.call × (e ≡ entry_of plan (state_of plan es) e.box_no e.call)
entry_determined plan es more e h =
    let rest = legal_then plan (opening_state plan) es (e ∷ more) h in
    (rest.0, same_entry e.box_no e.box_no e.call e.call e.reply _ refl refl rest.1)

-- legal histories of the same calls in the same order are one
pub history_determined : (plan : PlanFields) (es others : List Entry) → IsLegal plan es → IsLegal plan others
    → map (λ e. asked e) es ≡ map (λ e. asked e) others → es ≡ others
history_determined plan es others h k e = same_rest plan (opening_state plan) es others h k e

-- ---- runs

after_performed : (plan : PlanFields) (old : PlainState) (e : Entry) (new : PlainState) → Performs plan old e new
    → after_entry plan old.line e ≡ new.line
after_performed plan old e new h = ap (λ (d : Done). d.after) h.told

run_from_legal : (plan : PlanFields) (old : PlainState) (es : List Entry) (new : PlainState) → IsRun plan old es new
    → IsLegalFrom plan old.line es
run_from_legal plan old [] new h = tt
run_from_legal plan old (e ∷ es) new h =
    let rest = run_from_legal plan h.0 es new h.2 in (
      h.1.call,
      sym (ap (λ (d : Done). d.reply) h.1.told),
      subst (λ (state : LineState). IsLegalFrom plan state es) (sym (after_performed plan old e h.0 h.1)) rest,
    )

run_from_state : (plan : PlanFields) (old : PlainState) (es : List Entry) (new : PlainState) → IsRun plan old es new
    → state_after plan old.line es ≡ new.line
run_from_state plan old [] new h = ap (λ (p : PlainState). p.line) h
run_from_state plan old (e ∷ es) new h =
    ap (λ (state : LineState). state_after plan state es) (after_performed plan old e h.0 h.1)
    ∙ run_from_state plan h.0 es new h.2

run_from_calls : (plan : PlanFields) (old : PlainState) (es : List Entry) (new : PlainState) → IsRun plan old es new
    → new.calls ≡ old.calls + length es
run_from_calls plan old [] new h = let same : old.calls ≡ new.calls = ap (λ (p : PlainState). p.calls) h in omega arith
run_from_calls plan old (e ∷ es) new h = let rest = run_from_calls plan h.0 es new h.2 in omega (arith, h.1.calls)

abbrev counted : LineState → ℕ → PlainState
counted line n = record { line = line; calls = n }

abbrev done : Reply → LineState → Done
done reply after = record { reply = reply; after = after }

legal_from_run : (plan : PlanFields) (line : LineState) (n : ℕ) (es : List Entry) → IsLegalFrom plan line es
    → IsRun plan (counted line n) es (counted (state_after plan line es) (n + length es))
legal_from_run plan line n [] h = ap (λ (k : ℕ). counted line k) (omega arith)
legal_from_run plan line n (e ∷ es) h =
    let after = after_entry plan line e in
    let rest = legal_from_run plan after (n + 1) es h.2 in
    let same : n + 1 + length es ≡ n + length (e ∷ es) = omega arith in (
      counted after (n + 1),
      record { call = h.0; told = ap (λ (reply : Reply). done reply after) (sym h.1); calls = refl },
      subst (λ (k : ℕ). IsRun plan (counted after (n + 1)) es (counted (state_after plan after es) k)) same rest,
    )

-- what a line in one hand has done is a legal history
pub run_legal : (plan : PlanFields) (es : List Entry) (new : PlainState) → IsRun plan (opened plan) es new
    → IsLegal plan es
run_legal plan es new h = run_from_legal plan (opened plan) es new h

-- a line in one hand stands where its history leads
pub run_state : (plan : PlanFields) (es : List Entry) (new : PlainState) → IsRun plan (opened plan) es new
    → state_of plan es ≡ new.line
run_state plan es new h = run_from_state plan (opened plan) es new h

-- a line in one hand has made as many calls as its history has entries
pub run_calls : (plan : PlanFields) (es : List Entry) (new : PlainState) → IsRun plan (opened plan) es new
    → new.calls ≡ length es
run_calls plan es new h = let n = run_from_calls plan (opened plan) es new h in omega arith

-- a line in one hand can do every legal history
pub legal_run : (plan : PlanFields) (es : List Entry) → IsLegal plan es
    → IsRun plan (opened plan) es (record { line = state_of plan es; calls = length es })
legal_run plan es h =
    let same : 0 + length es ≡ length es = omega arith in
    subst (λ (k : ℕ). IsRun plan (opened plan) es (counted (state_of plan es) k)) same
    (legal_from_run plan (opening_state plan) 0 es h)

-- ---- a state for each box and each two neighbours

-- a history keeps the number of boxes and of pairs
pub states_after : (plan : PlanFields) (state : LineState) (es : List Entry) → IsStateOf plan state
    → IsStateOf plan (state_after plan state es)
states_after plan state [] h = h
states_after plan state (e ∷ es) h =
    states_after plan (after_entry plan state e) es (shape_stays plan state e.box_no e.call h)

-- a history leads to a state with the boxes and pairs of its plan
pub history_states : (plan : PlanFields) (es : List Entry) → IsStateOf plan (state_of plan es)
history_states plan es = states_after plan (opening_state plan) es (opening_shape plan)
