-- Calls that may be made stay so with one more.
use Rattle.std.proofs.Common.{List, [], ◌∷◌, ◌++◌}
use Rattle.std.specs.Prelude.{All}
use Rattle.std.proofs.lemmas.List.Elements.{All-nil, All-cons, All-head, All-tail}
use Rattle.token_law.specs.declared.calls.TokenCall.{TokenCall}
use Rattle.token_law.specs.History.{AreTokenCalls}
use Rattle.token_law.specs.Law.{IsTokenCall}

-- calls that may be made are so with one more that may
pub more_calls : (calls : List TokenCall) (call : TokenCall) → AreTokenCalls calls → IsTokenCall call
    → AreTokenCalls (calls ++ call ∷ [])
more_calls [] call are is = (is, _)
more_calls (first ∷ calls) call are is = (are.0, more_calls calls call are.1 is)

-- each of the calls may be made
pub each_call : (calls : List TokenCall) → All IsTokenCall calls → AreTokenCalls calls
each_call [] h = tt
each_call (call ∷ calls) h =
    (All-head IsTokenCall call calls h, each_call calls (All-tail IsTokenCall call calls h))

pub all_calls : (calls : List TokenCall) → AreTokenCalls calls → All IsTokenCall calls
all_calls [] h = All-nil IsTokenCall
all_calls (call ∷ calls) h = All-cons IsTokenCall call calls h.0 (all_calls calls h.1)

pub ruleset call_rules = (each_call, all_calls)
