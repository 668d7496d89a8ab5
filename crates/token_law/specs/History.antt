-- Legal token histories, the state in which they end, and their parts.
use Rattle.std.specs.Prelude.{◌≡◌, ℕ, ◌==◌, List, [], ◌∷◌, filter, map}
use Rattle.token_law.specs.declared.calls.TokenCall.{TokenCall}
use Rattle.token_law.specs.declared.calls.TokenEntry.{TokenEntry}
use Rattle.token_law.specs.Law.{IsTokenCall, TokenTold, token_step}
use Rattle.token_law.specs.States.{TokenState, opening_tokens}

-- what is told of a call
abbrev pub told_of : TokenState → TokenCall → TokenTold
told_of state call = token_step state call.box_no call.act

-- the entry of a call: its reply is the law's
abbrev pub token_entry_of : TokenState → TokenCall → TokenEntry
token_entry_of state call = record { call = call; reply = (told_of state call).reply }

-- the line after an entry's call
abbrev pub after_token_entry : TokenState → TokenEntry → TokenState
after_token_entry state e = (told_of state e.call).after

-- from a state on, each entry's call is one that may be made, and its reply is the law's
abbrev pub IsTokenHistoryFrom : TokenState → List TokenEntry → Type 0
IsTokenHistoryFrom state [] = Unit {0}
IsTokenHistoryFrom state (e ∷ es) =
    IsTokenCall e.call × (e.reply ≡ (told_of state e.call).reply) × IsTokenHistoryFrom (after_token_entry state e) es

-- a legal token history of a line that opens with so many tokens at each box
abbrev pub IsTokenHistory : ℕ → ℕ → List TokenEntry → Type 0
IsTokenHistory at_0 at_1 es = IsTokenHistoryFrom (opening_tokens at_0 at_1) es

-- the state in which a history from a state ends
abbrev pub tokens_after : TokenState → List TokenEntry → TokenState
tokens_after state [] = state
tokens_after state (e ∷ es) = tokens_after (after_token_entry state e) es

-- the state in which a history ends, of a line that opens with so many tokens at each box
abbrev pub token_state_of : ℕ → ℕ → List TokenEntry → TokenState
token_state_of at_0 at_1 es = tokens_after (opening_tokens at_0 at_1) es

-- the entries of box b, in order
abbrev pub token_part_of : ℕ → List TokenEntry → List TokenEntry
token_part_of b es = filter (λ e. e.call.box_no == b) es

-- the history that calls make from a state on, each with the law's reply
abbrev pub told_from : TokenState → List TokenCall → List TokenEntry
told_from state [] = []
told_from state (call ∷ calls) = token_entry_of state call ∷ told_from (told_of state call).after calls

-- the calls of a history, in order
abbrev pub token_calls : List TokenEntry → List TokenCall
token_calls es = map (λ e. e.call) es

-- calls that may be made, each
abbrev pub AreTokenCalls : List TokenCall → Type 0
AreTokenCalls [] = Unit {0}
AreTokenCalls (call ∷ calls) = IsTokenCall call × AreTokenCalls calls
