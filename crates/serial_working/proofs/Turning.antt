-- The next call of a box, and what is left once it is taken.
use Rattle.std.proofs.Common.{◌≡◌, ℕ, ◌+◌, ◌<◌, ◌≤◌, List, ◌∷◌, length, drop, get_or, set, Option, sym, ap, ◌∙◌, arith}
use Rattle.std.proofs.lemmas.List.{length-drop}
use Rattle.std.proofs.lemmas.List.Elements.{All-get_or}
use Rattle.line_law.specs.declared.call.Call.{Call}
use Rattle.line_law.specs.Serial.{calls_left}
use Rattle.script_text.specs.Scripts.{most_calls}
use Rattle.script_text.specs.declared.script.Script.{Script}
use Rattle.serial_working.specs.Rosters.{AreFewCalls, TakesCall, calls_of_scripts, head_of, left_of}
use Rattle.serial_working.proofs.LeftOf.{roster-at, roster-set}

-- a script and its calls, of scripts of which so many calls are made
pub record IsScriptAt (scripts : List Script) (made : List ℕ) (b : ℕ) (script : Script) (lent : List Call) : Type 0
  where
    pub counts : length made ≡ length scripts
    pub within : b < length scripts
    pub calls : lent ≡ (get_or scripts b script).calls

pub left_here : (scripts : List Script) (made : List ℕ) (b : ℕ) (script : Script) (lent : List Call)
    → IsScriptAt scripts made b script lent
    → calls_left (left_of (calls_of_scripts scripts) made) b ≡ drop (get_or made b 0) lent
left_here scripts made b script lent h =
    roster-at scripts made b script h.counts h.within ∙ ap (drop (get_or made b 0)) (sym h.calls)

-- the call found behind those that a box has made is the next that it has left
pub next_is : (scripts : List Script) (made : List ℕ) (b : ℕ) (script : Script) (lent : List Call) (found : Option Call)
    → IsScriptAt scripts made b script lent → found ≡ head_of (drop (get_or made b 0) lent)
    → found ≡ head_of (calls_left (left_of (calls_of_scripts scripts) made) b)
next_is scripts made b script lent found h e = e ∙ ap head_of (sym (left_here scripts made b script lent h))

-- a box that has a call left has made fewer calls than its script has
pub more_left : (scripts : List Script) (made : List ℕ) (b : ℕ) (script : Script) (lent : List Call)
    → IsScriptAt scripts made b script lent → 0 < length (calls_left (left_of (calls_of_scripts scripts) made) b)
    → get_or made b 0 < length lent
more_left scripts made b script lent h some =
    let counted = length-drop (get_or made b 0) lent in
    let same = ap length (left_here scripts made b script lent h) in
    omega arith

-- a box's script has no more calls than a script may have
pub few_lent : (scripts : List Script) (made : List ℕ) (b : ℕ) (script : Script) (lent : List Call)
    → IsScriptAt scripts made b script lent → AreFewCalls scripts → length lent ≤ most_calls
few_lent scripts made b script lent h few =
    let few_here = All-get_or (λ (s : Script). length s.calls ≤ most_calls) scripts b script h.within few in
    let same : length lent ≡ length (get_or scripts b script).calls = ap length h.calls in
    omega arith

-- where a box makes the call behind those that it has made, it has taken that call of what is left
pub takes : (scripts : List Script) (made : List ℕ) (b : ℕ) (script : Script) (lent : List Call) (call : Call)
    → IsScriptAt scripts made b script lent → drop (get_or made b 0) lent ≡ call ∷ drop (get_or made b 0 + 1) lent
    → TakesCall (left_of (calls_of_scripts scripts) made)
    (left_of (calls_of_scripts scripts) (set made b (get_or made b 0 + 1))) b call
takes scripts made b script lent call h e =
    let left : calls_left (left_of (calls_of_scripts scripts) made) b ≡ call ∷ drop (get_or made b 0 + 1) lent =
    left_here scripts made b script lent h ∙ e in
    let rest : drop 1 (calls_left (left_of (calls_of_scripts scripts) made) b) ≡ drop (get_or made b 0 + 1) lent =
    ap (drop 1) left in
    let own : (get_or scripts b script).calls ≡ lent = sym h.calls in
    record {
      taken = left ∙ ap (λ (calls : List Call). call ∷ calls) (sym rest);
      left =
          roster-set scripts made b (get_or made b 0 + 1) script h.counts h.within
          ∙ ap (λ (calls : List Call). set (left_of (calls_of_scripts scripts) made) b calls)
          (ap (drop (get_or made b 0 + 1)) own ∙ sym rest);
    }
