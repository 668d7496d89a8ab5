-- One script after another, each with its text.
use Rattle.std.proofs.Common.{◌≡◌, ℕ, suc, ◌+◌, ◌-◌, ◌<◌, ◌≤◌, List, [], ◌∷◌, ◌++◌, All, length, map, get_or, sym, ap}
use Rattle.std.proofs.Common.{◌∙◌, subst, arith, inl, inr, ◌⊎◌, Option}
use Rattle.std.proofs.Math.ListN.{get_or-append}
use Rattle.std.proofs.Math.Nat.{eq-or-lt_of_le}
use Rattle.std.proofs.lemmas.List.{length-append}
use Rattle.std.proofs.lemmas.List.Elements.{All-append, All-cons, All-nil}
use Rattle.std.proofs.Math.Seq.{get_or-append_seam}
use Rattle.std.specs.Borrow.{Bor}
use Rattle.std.specs.Global.{Vec}
use Rattle.line_plan.specs.Plans.{PlanFields}
use Rattle.script_text.specs.Scripts.{most_script_bytes, script_of}
use Rattle.script_text.specs.declared.script.Script.{Script}
use Rattle.text_fetch.specs.Fetches.{AreFetched, IsFetched}
use Rattle.text_fetch.specs.FromTexts.{Held, IsGiven, StopsAt, text_told}
use Rattle.text_fetch.specs.declared.stop.Stop.{Stop}
use Rattle.text_fetch.proofs.Gathering.{name_at}
use Rattle.explained_texts.specs.Troubles.{IsExplainedAt, IsExplainedOfRun, name_of_text}
use Rattle.explained_texts.specs.declared.trouble.Trouble.{Trouble}
use Rattle.explained_texts.proofs.Stopped.{explained_of_run}

abbrev names_of : List (Bor (List ℕ)) → List (List ℕ)
names_of xs = map (λ name. name.now) xs

-- what a shelf holds under the next name, where it still holds all that it held
pub held_here : (held other : Held) (xs : List (Bor (List ℕ))) (i : ℕ) (none : Bor (List ℕ))
    → ((n : List ℕ) → other n ≡ held n) → i < length xs
    → other (get_or xs i none).now ≡ held (get_or (names_of xs) i [])
held_here held other xs i none same lt =
    same (get_or xs i none).now ∙ ap held (name_at xs i none lt)

-- where a shelf still holds what it held, a step that stops at the next script stops at that of its name
pub stops_there : (held other : Held) (plan : PlanFields) (xs : List (Bor (List ℕ))) (i : ℕ) (none : Bor (List ℕ))
    (stop : Stop) → ((n : List ℕ) → other n ≡ held n) → i < length xs
    → StopsAt stop (text_told (i + 2) (script_of plan i) (other (get_or xs i none).now))
    → StopsAt stop (text_told (i + 2) (script_of plan i) (held (get_or (names_of xs) i [])))
stops_there held other plan xs i none stop same lt h =
    subst (λ (o : Option (List ℕ)). StopsAt stop (text_told (i + 2) (script_of plan i) o))
    (held_here held other xs i none same lt) h

-- where a shelf still holds what it held, the next script that is read is that of its name
pub given_there : (held other : Held) (plan : PlanFields) (xs : List (Bor (List ℕ))) (i : ℕ) (none : Bor (List ℕ))
    (script : Script) → ((n : List ℕ) → other n ≡ held n) → i < length xs
    → IsGiven script (text_told (i + 2) (script_of plan i) (other (get_or xs i none).now))
    → IsGiven script (text_told (i + 2) (script_of plan i) (held (get_or (names_of xs) i [])))
given_there held other plan xs i none script same lt h =
    subst (λ (o : Option (List ℕ)). IsGiven script (text_told (i + 2) (script_of plan i) o))
    (held_here held other xs i none same lt) h

-- where a shelf still holds what it held, a refusal explained of the next script is explained under its name in the
-- run
pub explained_there : (held other : Held) (plan_name : List ℕ) (xs : List (Bor (List ℕ))) (i : ℕ)
    (none : Bor (List ℕ)) (trouble : Trouble) → other ≡ held → i < length xs
    → IsExplainedAt other (i + 2) (get_or xs i none).now trouble
    → IsExplainedOfRun held plan_name (names_of xs) trouble
explained_there held other plan_name xs i none trouble same lt h =
    let place : (i + 2) - 1 ≡ suc i = omega arith in
    let next : name_of_text plan_name (names_of xs) (i + 2) ≡ get_or (names_of xs) i [] =
    ap (λ (k : ℕ). get_or (plan_name ∷ names_of xs) k []) place in
    explained_of_run held plan_name (names_of xs) (i + 2) (get_or xs i none).now trouble
    (name_at xs i none lt ∙ sym next)
    (subst (λ (s : Held). IsExplainedAt s (i + 2) (get_or xs i none).now trouble) same h)

-- ---- the texts so far

last_text : (held : Held) (names : List (List ℕ)) (texts : List (Vec ℕ)) (text d : Vec ℕ) (b : ℕ)
    → (b ≡ length texts) ⊎ (b < length texts) → IsFetched (held (get_or names (length texts) [])) text.items
    → AreFetched held names texts
    → IsFetched (held (get_or names b [])) (get_or (texts ++ text ∷ []) b d).items
last_text held names texts text d b (inl same) here all =
    rw same (rw (get_or-append_seam texts text [] d) here)
last_text held names texts text d b (inr lt) here all =
    rw (get_or-append texts (text ∷ []) d b lt) (all.each b d lt)

-- texts that are fetched in turn under the first names are so with that of the next name behind them
pub fetched_more : (held : Held) (names : List (List ℕ)) (texts : List (Vec ℕ)) (text : Vec ℕ)
    → length texts < length names → IsFetched (held (get_or names (length texts) [])) text.items
    → AreFetched held names texts → AreFetched held names (texts ++ text ∷ [])
fetched_more held names texts text lt here all =
    let count : length (texts ++ text ∷ []) ≡ length texts + 1 = length-append texts (text ∷ []) in
    record {
      few = omega (arith, count, lt);
      each = λ b d within. last_text held names texts text d b (eq-or-lt_of_le (omega (arith, within, count))) here all;
    }

-- where a shelf still holds what it held, bytes fetched under the next name are of what it holds under that name
pub fetched_there : (held other : Held) (xs : List (Bor (List ℕ))) (i : ℕ) (none : Bor (List ℕ)) (bytes : List ℕ)
    → ((n : List ℕ) → other n ≡ held n) → i < length xs → IsFetched (other (get_or xs i none).now) bytes
    → IsFetched (held (get_or (names_of xs) i [])) bytes
fetched_there held other xs i none bytes same lt h =
    subst (λ (o : Option (List ℕ)). IsFetched o bytes) (held_here held other xs i none same lt) h

-- texts of no more bytes than are fetched stay so with one more
pub few_more : (texts : List (Vec ℕ)) (text : Vec ℕ) → All (λ t. length t.items ≤ most_script_bytes + 1) texts
    → length text.items ≤ most_script_bytes + 1
    → All (λ t. length t.items ≤ most_script_bytes + 1) (texts ++ text ∷ [])
few_more texts text all one =
    let P = λ (t : Vec ℕ). length t.items ≤ most_script_bytes + 1 in
    All-append P texts (text ∷ []) all (All-cons P text [] one (All-nil P))
