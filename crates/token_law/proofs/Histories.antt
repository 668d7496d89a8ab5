-- Legal token histories: how they grow, and their beginnings.
use Rattle.std.proofs.Common.{◌≡◌, ℕ, List, [], ◌∷◌, ◌++◌, refl, sym, ap, subst, ◌∙◌}
use Rattle.token_law.specs.declared.calls.TokenCall.{TokenCall}
use Rattle.token_law.specs.declared.calls.TokenEntry.{TokenEntry}
use Rattle.token_law.specs.declared.calls.TokenReply.{TokenReply}
use Rattle.token_law.specs.History.{AreTokenCalls, IsTokenHistory, IsTokenHistoryFrom, after_token_entry, told_from}
use Rattle.token_law.specs.History.{told_of, token_calls, token_entry_of, token_state_of, tokens_after}
use Rattle.token_law.specs.Law.{IsTokenCall, token_step}
use Rattle.token_law.specs.States.{TokenState, opening_tokens}

-- ---- two histories, one after the other

legal_both : (state : TokenState) (es more : List TokenEntry) → IsTokenHistoryFrom state es
    → IsTokenHistoryFrom (tokens_after state es) more → IsTokenHistoryFrom state (es ++ more)
legal_both state [] more h k = k
legal_both state (e ∷ es) more h k = (h.0, h.1, legal_both (after_token_entry state e) es more h.2 k)

legal_first : (state : TokenState) (es more : List TokenEntry) → IsTokenHistoryFrom state (es ++ more)
    → IsTokenHistoryFrom state es
legal_first state [] more h = tt
legal_first state (e ∷ es) more h = (h.0, h.1, legal_first (after_token_entry state e) es more h.2)

legal_then : (state : TokenState) (es more : List TokenEntry) → IsTokenHistoryFrom state (es ++ more)
    → IsTokenHistoryFrom (tokens_after state es) more
legal_then state [] more h = h
legal_then state (e ∷ es) more h = legal_then (after_token_entry state e) es more h.2

after_both : (state : TokenState) (es more : List TokenEntry)
    → tokens_after state (es ++ more) ≡ tokens_after (tokens_after state es) more
after_both state [] more = refl
after_both state (e ∷ es) more = after_both (after_token_entry state e) es more

-- ---- entries that are one

abbrev made : TokenCall → TokenReply → TokenEntry
made call reply = record { call = call; reply = reply }

same_entry : (call next : TokenCall) (reply other : TokenReply) → call ≡ next → reply ≡ other
    → made call reply ≡ made next other
same_entry call next reply other e f = ap (λ (x : TokenCall). made x reply) e ∙ ap (λ (x : TokenReply). made next x) f

same_rest : (state : TokenState) (es others : List TokenEntry) → IsTokenHistoryFrom state es
    → IsTokenHistoryFrom state others → token_calls es ≡ token_calls others → es ≡ others
same_rest state [] [] h k e = refl
same_rest state [] (f ∷ others) h k e = absurd cc
same_rest state (d ∷ es) [] h k e = absurd cc
same_rest state (d ∷ es) (f ∷ others) h k e =
    let calls : d.call ≡ f.call = cc in
    let tails : token_calls es ≡ token_calls others = cc in
    let replies : d.reply ≡ f.reply = h.1 ∙ ap (λ (c : TokenCall). (told_of state c).reply) calls ∙ sym k.1 in
    let same : d ≡ f = same_entry d.call f.call d.reply f.reply calls replies in
    let rest : es ≡ others =
    same_rest (after_token_entry state d) es others h.2
    (subst (λ (x : TokenEntry). IsTokenHistoryFrom (after_token_entry state x) others) (sym same) k.2) tails in
    ap (λ (x : TokenEntry). x ∷ es) same ∙ ap (λ (xs : List TokenEntry). f ∷ xs) rest

-- ---- the laws

-- a legal token history grows by a call that may be made, with the law's reply, to a legal one
pub token_history_grows : (at_0 at_1 : ℕ) (es : List TokenEntry) (call : TokenCall) → IsTokenHistory at_0 at_1 es
    → IsTokenCall call → IsTokenHistory at_0 at_1 (es ++ token_entry_of (token_state_of at_0 at_1 es) call ∷ [])
token_history_grows at_0 at_1 es call h may = legal_both (opening_tokens at_0 at_1) es
    (token_entry_of (token_state_of at_0 at_1 es) call ∷ []) h (may, refl, tt)

-- the state after one entry more is what the law's step leaves
pub token_state_grows : (at_0 at_1 : ℕ) (es : List TokenEntry) (e : TokenEntry)
    → token_state_of at_0 at_1 (es ++ e ∷ [])
    ≡ (token_step (token_state_of at_0 at_1 es) e.call.box_no e.call.act).after
token_state_grows at_0 at_1 es e = after_both (opening_tokens at_0 at_1) es (e ∷ [])

-- what begins a legal token history is legal
pub token_prefix_legal : (at_0 at_1 : ℕ) (es more : List TokenEntry) → IsTokenHistory at_0 at_1 (es ++ more)
    → IsTokenHistory at_0 at_1 es
token_prefix_legal at_0 at_1 es more h = legal_first (opening_tokens at_0 at_1) es more h

-- each entry of a legal token history has a call that may be made, and the law's reply after those before it
pub token_entry_determined : (at_0 at_1 : ℕ) (es more : List TokenEntry) (e : TokenEntry)
    → IsTokenHistory at_0 at_1 (es ++ e ∷ more)
    → IsTokenCall e.call × (e ≡ token_entry_of (token_state_of at_0 at_1 es) e.call)
token_entry_determined at_0 at_1 es more e h =
    let rest = legal_then (opening_tokens at_0 at_1) es (e ∷ more) h in
    (rest.0, same_entry e.call e.call e.reply _ refl rest.1)

pub token_history_determined : (at_0 at_1 : ℕ) (es others : List TokenEntry) → IsTokenHistory at_0 at_1 es
    → IsTokenHistory at_0 at_1 others → token_calls es ≡ token_calls others → es ≡ others
token_history_determined at_0 at_1 es others h k e = same_rest (opening_tokens at_0 at_1) es others h k e

pub ruleset history_rules
    = (token_history_grows, token_state_grows, token_prefix_legal, token_entry_determined, token_history_determined)

-- ---- the history that calls make

told_legal : (state : TokenState) (calls : List TokenCall) → AreTokenCalls calls
    → IsTokenHistoryFrom state (told_from state calls)
told_legal state [] h = tt
told_legal state (call ∷ calls) h = (h.0, refl, told_legal (told_of state call).after calls h.1)

told_calls : (state : TokenState) (calls : List TokenCall) → token_calls (told_from state calls) ≡ calls
told_calls state [] = refl
told_calls state (call ∷ calls) = ap (λ (cs : List TokenCall). call ∷ cs) (told_calls (told_of state call).after calls)

-- calls that may be made, each with the law's reply, are a legal token history
pub calls_are_told : (at_0 at_1 : ℕ) (calls : List TokenCall) → AreTokenCalls calls
    → IsTokenHistory at_0 at_1 (told_from (opening_tokens at_0 at_1) calls)
calls_are_told at_0 at_1 calls h = told_legal (opening_tokens at_0 at_1) calls h

-- the history that calls make has exactly these calls
pub told_has_calls : (at_0 at_1 : ℕ) (calls : List TokenCall)
    → token_calls (told_from (opening_tokens at_0 at_1) calls) ≡ calls
told_has_calls at_0 at_1 calls = told_calls (opening_tokens at_0 at_1) calls

pub ruleset call_rules = (calls_are_told, told_has_calls)
