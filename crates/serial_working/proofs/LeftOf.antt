-- What is left of scripts of which some calls are made.
use Rattle.std.proofs.Common.{◌≡◌, ℕ, zero, suc, ◌<◌, List, [], ◌∷◌, length, drop, get_or, set, replicate, Some, None}
use Rattle.std.proofs.Common.{slice_get, refl, ap, ◌∙◌, arith}
use Rattle.std.proofs.lemmas.List.{length-map}
use Rattle.line_law.specs.declared.call.Call.{Call}
use Rattle.line_law.specs.Serial.{calls_left}
use Rattle.script_text.specs.declared.script.Script.{Script}
use Rattle.serial_working.specs.Rosters.{calls_of_scripts, head_of, left_of}

pub length-left : (scripts : List (List Call)) (made : List ℕ) → length (left_of scripts made) ≡ length scripts
length-left [] made = refl
length-left (calls ∷ scripts) [] = ap suc (length-left scripts [])
length-left (calls ∷ scripts) (count ∷ made) = ap suc (length-left scripts made)

pub left-at : (scripts : List (List Call)) (made : List ℕ) (b : ℕ) → length made ≡ length scripts → b < length scripts
    → calls_left (left_of scripts made) b ≡ drop (get_or made b 0) (get_or scripts b [])
left-at [] made b e lt = absurd (omega arith)
left-at (calls ∷ scripts) [] b e lt = absurd (omega arith)
left-at (calls ∷ scripts) (count ∷ made) zero e lt = refl
left-at (calls ∷ scripts) (count ∷ made) (suc b) e lt = left-at scripts made b (omega arith) (omega arith)

pub left-set : (scripts : List (List Call)) (made : List ℕ) (b n : ℕ) → length made ≡ length scripts
    → b < length scripts → left_of scripts (set made b n) ≡ set (left_of scripts made) b (drop n (get_or scripts b []))
left-set [] made b n e lt = absurd (omega arith)
left-set (calls ∷ scripts) [] b n e lt = absurd (omega arith)
left-set (calls ∷ scripts) (count ∷ made) zero n e lt = refl
left-set (calls ∷ scripts) (count ∷ made) (suc b) n e lt =
    ap (λ (rest : List (List Call)). drop count calls ∷ rest) (left-set scripts made b n (omega arith) (omega arith))

-- the calls at a box's number are those of its script
pub calls-at : (scripts : List Script) (b : ℕ) (d : Script) → b < length scripts
    → get_or (calls_of_scripts scripts) b [] ≡ (get_or scripts b d).calls
calls-at [] b d lt = absurd (omega arith)
calls-at (script ∷ scripts) zero d lt = refl
calls-at (script ∷ scripts) (suc b) d lt = calls-at scripts b d (omega arith)

-- the head of what is behind n calls, and what is behind it
pub head-drop : (n : ℕ) (calls : List Call) (call : Call) → head_of (drop n calls) ≡ Some call
    → drop n calls ≡ call ∷ drop (suc n) calls
head-drop zero [] call e = absurd cc
head-drop zero (first ∷ calls) call e = let same : first ≡ call = cc in ap (λ (c : Call). c ∷ calls) same
head-drop (suc n) [] call e = absurd cc
head-drop (suc n) (first ∷ calls) call e = head-drop n calls call e

pub none-drop : (n : ℕ) (calls : List Call) → head_of (drop n calls) ≡ None → drop n calls ≡ []
none-drop zero [] e = refl
none-drop zero (first ∷ calls) e = absurd cc
none-drop (suc n) [] e = refl
none-drop (suc n) (first ∷ calls) e = none-drop n calls e

pub head-get : (n : ℕ) (calls : List Call) → head_of (drop n calls) ≡ slice_get calls n
head-get zero [] = refl
head-get zero (call ∷ calls) = refl
head-get (suc n) [] = refl
head-get (suc n) (call ∷ calls) = head-get n calls

-- nothing is made yet
pub left_first : (scripts : List (List Call)) (n : ℕ) → left_of scripts (replicate n 0) ≡ scripts
left_first [] n = refl
left_first (calls ∷ scripts) zero = ap (λ (rest : List (List Call)). calls ∷ rest) (left_first scripts zero)
left_first (calls ∷ scripts) (suc n) = ap (λ (rest : List (List Call)). calls ∷ rest) (left_first scripts n)

-- ---- of the scripts of a line

-- there are as many lists of what is left as scripts
pub roster-length : (scripts : List Script) (made : List ℕ)
    → length (left_of (calls_of_scripts scripts) made) ≡ length scripts
roster-length scripts made = length-left (calls_of_scripts scripts) made ∙ length-map scripts (λ script. script.calls)

-- what is left of a box's script are its calls behind those made
pub roster-at : (scripts : List Script) (made : List ℕ) (b : ℕ) (d : Script) → length made ≡ length scripts
    → b < length scripts
    → calls_left (left_of (calls_of_scripts scripts) made) b ≡ drop (get_or made b 0) (get_or scripts b d).calls
roster-at scripts made b d e lt =
    let mapped = length-map scripts (λ script. script.calls) in
    left-at (calls_of_scripts scripts) made b (omega arith) (omega arith)
    ∙ ap (drop (get_or made b 0)) (calls-at scripts b d lt)

-- where a box's count of calls made is set, the calls behind that many are left of its script
pub roster-set : (scripts : List Script) (made : List ℕ) (b n : ℕ) (d : Script) → length made ≡ length scripts
    → b < length scripts
    → left_of (calls_of_scripts scripts) (set made b n)
    ≡ set (left_of (calls_of_scripts scripts) made) b (drop n (get_or scripts b d).calls)
roster-set scripts made b n d e lt =
    let mapped = length-map scripts (λ script. script.calls) in
    left-set (calls_of_scripts scripts) made b n (omega arith) (omega arith)
    ∙ ap (λ (calls : List Call). set (left_of (calls_of_scripts scripts) made) b (drop n calls))
    (calls-at scripts b d lt)

-- where no call is made, the whole scripts are left
pub roster-first : (scripts : List Script) (n : ℕ)
    → left_of (calls_of_scripts scripts) (replicate n 0) ≡ calls_of_scripts scripts
roster-first scripts n = left_first (calls_of_scripts scripts) n

pub ruleset head_rules = (head-get)

pub ruleset roster_rules = (roster-length, roster-first)
