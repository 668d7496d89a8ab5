-- Calls that a box may make in turn, and one more behind them.
use Rattle.std.proofs.Common.{◌≡◌, ℕ, ◌≤◌, List, [], ◌∷◌, ◌++◌, refl}
use Rattle.std.specs.Prelude.{All}
use Rattle.std.proofs.lemmas.List.Elements.{All-nil, All-cons}
use Rattle.line_plan.specs.Plans.{PlanFields}
use Rattle.line_law.specs.declared.call.Call.{Call}
use Rattle.line_law.specs.Known.{KnowsCall}
use Rattle.line_law.specs.Serial.{AreCalls}
use Rattle.script_text.specs.declared.script.Script.{Script}
use Rattle.script_text.specs.Scripts.{IsScriptOf}

-- the moment of the last call, or the one before all calls
abbrev pub last_moment : ℕ → List Call → ℕ
last_moment moment [] = moment
last_moment moment (call ∷ calls) = last_moment call.moment calls

-- calls in turn with one more, not before the last of them, are in turn
pub AreCalls-more : (plan : PlanFields) (b moment : ℕ) (calls : List Call) (call : Call) → AreCalls plan b moment calls
    → KnowsCall plan b call → last_moment moment calls ≤ call.moment → AreCalls plan b moment (calls ++ call ∷ [])
AreCalls-more plan b moment [] call h known later = (known, later, tt)
AreCalls-more plan b moment (first ∷ calls) call h known later =
    (h.0, h.1, AreCalls-more plan b first.moment calls call h.2 known later)

-- the last moment is that of the last call
pub last_moment-more : (moment : ℕ) (calls : List Call) (call : Call)
    → last_moment moment (calls ++ call ∷ []) ≡ call.moment
last_moment-more moment [] call = refl
last_moment-more moment (first ∷ calls) call = last_moment-more first.moment calls call

-- the plan knows each
pub AreCalls-known : (plan : PlanFields) (b moment : ℕ) (calls : List Call) → AreCalls plan b moment calls
    → All (λ call. KnowsCall plan b call) calls
AreCalls-known plan b moment [] h = All-nil (λ call. KnowsCall plan b call)
AreCalls-known plan b moment (call ∷ calls) h =
    All-cons (λ call. KnowsCall plan b call) call calls h.0 (AreCalls-known plan b call.moment calls h.2)

-- the calls of a script
pub script_known : (plan : PlanFields) (b : ℕ) (script : Script) → IsScriptOf plan b script
    → All (λ call. KnowsCall plan b call) script.calls
script_known plan b script h = AreCalls-known plan b 0 script.calls h.calls
