-- A turn of the order on one thread.
use Rattle.std.proofs.Common.{◌≡◌, ℕ, zero, suc, Bool, true, false, cond, eqb, ◌+◌, ◌<◌, ◌≤◌, ◌^◌, List, [], ◌∷◌, ◌++◌}
use Rattle.std.proofs.Common.{length, drop, get_or, set, All, Option, Some, None, slice_get, refl, sym, ap, ◌∙◌, arith}
use Rattle.std.proofs.Common.{append_assoc}
use Rattle.std.proofs.lemmas.List.{append-nil, length-map}
use Rattle.std.proofs.lemmas.List.Sums.{sum_by-le}
use Rattle.std.proofs.lemmas.List.Elements.{All-from_get_or, All-map}
use Rattle.line_plan.specs.Plans.{PlanFields, IsPlan}
use Rattle.line_law.specs.declared.call.Call.{Call}
use Rattle.line_law.specs.declared.call.Entry.{Entry}
use Rattle.line_law.specs.declared.call.Reply.{Reply}
use Rattle.line_law.specs.States.{LineState, opening_state}
use Rattle.line_law.specs.Law.{Done, MayCall, step}
use Rattle.line_law.specs.Lines.{PlainState, IsLineOf}
use Rattle.line_law.specs.Serial.{AreCalls, AreLeft, AreScripts, calls_left, count_left, go_on, call_next, next_box}
use Rattle.line_law.specs.Serial.{serial_from, serial_journal}
use Rattle.line_law.proofs.Left.{has_box, left_next, count_next, may_call, next_has, none_next}
use Rattle.script_text.specs.Scripts.{IsScriptOf, most_calls}
use Rattle.script_text.specs.declared.script.Script.{Script}
use Rattle.serial_working.specs.Rosters.{AreFewCalls, TakesCall, calls_of_scripts, head_of}
use Rattle.text_fetch.specs.Runs.{AreScriptsOf}
use Rattle.serial_working.specs.Serial.{Turns, rest_of}

-- the box that calls next has a script
pub box_there : (plan : PlanFields) (state : LineState) (left : List (List Call)) (b : ℕ)
    → next_box plan state left ≡ Some b → b < length left
box_there plan state left b e = let has = next_has plan state left b e in has_box left b has.call has.rest has.is

-- the box that calls next has a call left
pub call_there : (plan : PlanFields) (state : LineState) (left : List (List Call)) (b : ℕ)
    → next_box plan state left ≡ Some b → 0 < length (calls_left left b)
call_there plan state left b e = let has = next_has plan state left b e in rw has.is (omega arith)

-- the next call that a box has left may be made
pub may_look : (plan : PlanFields) (state : LineState) (left : List (List Call)) (b : ℕ) (call : Call)
    → AreLeft plan state left → Some call ≡ head_of (calls_left left b) → MayCall plan state b call
may_look plan state left b call h e = go (calls_left left b) refl e where
  go : (calls : List Call) → calls_left left b ≡ calls → Some call ≡ head_of calls → MayCall plan state b call
  go [] is f = absurd cc
  go (first ∷ calls) is f = let same : first ≡ call =
      cc in may_call plan state left b call calls h (is ∙ ap (λ (c : Call). c ∷ calls) same)

-- what is still to come, where box b calls next
rest_goes_on : (plan : PlanFields) (state : LineState) (left : List (List Call)) (n b : ℕ) (call : Call)
    (calls : List Call) → next_box plan state left ≡ Some b → calls_left left b ≡ call ∷ calls
    → serial_from plan (suc n) state left
    ≡ record { box_no = b; call = call; reply = (step plan state b call).reply }
    ∷ serial_from plan n (step plan state b call).after (set left b calls)
unfolding serial_from
rest_goes_on plan state left n b call calls next is = rw (next, is) refl

-- the answered call of the box that calls next is the next entry of the serial order
pub turns : (plan : PlanFields) (old new : LineState) (left after : List (List Call)) (b : ℕ) (call : Call)
    (reply : Reply) → next_box plan old left ≡ Some b → TakesCall left after b call
    → step plan old b call ≡ record { reply = reply; after = new }
    → Turns plan old left (record { box_no = b; call = call; reply = reply }) new after
unfolding rest_of
turns plan old new left after b call reply next takes told =
    let fewer : count_left left ≡ count_left after + 1 =
    rw takes.left (count_next left b call (drop 1 (calls_left left b)) takes.taken) in
    let counted : count_left left ≡ suc (count_left after) = omega (arith, fewer) in
    record {
      next =
          ap (λ (n : ℕ). serial_from plan n old left) counted
          ∙ rest_goes_on plan old left (count_left after) b call (drop 1 (calls_left left b)) next takes.taken
          ∙ rw (told, ← takes.left) refl;
      fewer = fewer;
    }

-- a box's next call leaves the boxes with calls that they may make in turn
pub left_after : (plan : PlanFields) (plain : PlainState) (new : LineState) (left after : List (List Call)) (b : ℕ)
    (call : Call) (reply : Reply) → IsLineOf plan plain → AreLeft plan plain.line left → TakesCall left after b call
    → step plan plain.line b call ≡ record { reply = reply; after = new } → AreLeft plan new after
left_after plan plain new left after b call reply line h takes told =
    let more = left_next plan plain.line left b call (drop 1 (calls_left left b)) line.shape.boxes h takes.taken in
    let ends : (step plan plain.line b call).after ≡ new = ap (λ (d : Done). d.after) told in
    rw (ends, ← takes.left) at more

-- ---- the whole run

-- nothing is still to come where no box calls next
pub rest_none : (plan : PlanFields) (state : LineState) (left : List (List Call)) → next_box plan state left ≡ None
    → rest_of plan state left ≡ []
unfolding rest_of serial_from
rest_none plan state left e = rw (none_next plan state left e) refl

script_at : (plan : PlanFields) (scripts : List Script) (b : ℕ) → AreScriptsOf plan scripts
    → AreCalls plan b 0 (calls_left (calls_of_scripts scripts) b)
script_at plan scripts b h = go scripts b (h.own b) where
  go : (xs : List Script) (i : ℕ) → ((script : Script) → slice_get xs i ≡ Some script → IsScriptOf plan b script)
      → AreCalls plan b 0 (calls_left (calls_of_scripts xs) i)
  go [] i own = tt
  go (script ∷ xs) zero own = (own script refl).calls
  go (script ∷ xs) (suc i) own = go xs i own

-- the scripts of a line are calls that each of its boxes may make in turn from the start of the day
pub scripts_are : (plan : PlanFields) (scripts : List Script) → AreScriptsOf plan scripts
    → AreScripts plan (calls_of_scripts scripts)
scripts_are plan scripts h =
    record { each = length-map scripts (λ script. script.calls) ∙ h.each; calls = λ b. script_at plan scripts b h }

no_script : Script
no_script = record { box_no = 0; calls = [] }

-- no script of a line has more calls than a script may have
pub scripts_few : (plan : PlanFields) (scripts : List Script) → AreScriptsOf plan scripts → AreFewCalls scripts
scripts_few plan scripts h =
    All-from_get_or (λ (script : Script). length script.calls ≤ most_calls) scripts no_script
    (λ b lt. (h.own b (get_or scripts b no_script) (there scripts b lt)).few) where
      there : (xs : List Script) (b : ℕ) → b < length xs → slice_get xs b ≡ Some (get_or xs b no_script)
      there [] b lt = absurd (omega arith)
      there (x ∷ xs) zero lt = refl
      there (x ∷ xs) (suc b) lt = there xs b (omega arith)

-- a plan has at most 64 boxes
pub boxes_few : (plan : PlanFields) → IsPlan plan → length plan.boxes ≤ 64
boxes_few plan h = go (eqb plan.version 1) h.most where
  go : (b : Bool) → length plan.boxes ≤ cond b 32 64 → length plan.boxes ≤ 64
  go true le = omega arith
  go false le = le

-- few calls in all
pub calls_few : (plan : PlanFields) (scripts : List Script) → IsPlan plan → AreScriptsOf plan scripts
    → count_left (calls_of_scripts scripts) < 2 ^ 32
calls_few plan scripts is h =
    let boxes = boxes_few plan is in
    let all : All (λ calls. length calls ≤ most_calls) (calls_of_scripts scripts) =
    All-map (λ (calls : List Call). length calls ≤ most_calls) (λ (script : Script). script.calls) scripts
    (scripts_few plan scripts h) in
    let bound = sum_by-le (λ (calls : List Call). length calls) most_calls (calls_of_scripts scripts) all in
    let mapped = length-map scripts (λ script. script.calls) in
    omega (arith, h.each)

-- the first n calls are at most n
serial_short : (plan : PlanFields) (n : ℕ) (state : LineState) (left : List (List Call))
    → length (serial_from plan n state left) ≤ n
unfolding serial_from
serial_short plan zero state left = omega arith
serial_short plan (suc n) state left =
    goes (λ after rest. serial_short plan n after rest) (next_box plan state left) where
      calls : ((after : LineState) (rest : List (List Call)) → length (serial_from plan n after rest) ≤ n)
          → (b : ℕ) (own : List Call)
          → length (call_next plan (λ after rest. serial_from plan n after rest) state left b own) ≤ suc n
      calls short b [] = omega arith
      calls short b (call ∷ own) = let few = short (step plan state b call).after (set left b own) in omega (arith, few)

      goes : ((after : LineState) (rest : List (List Call)) → length (serial_from plan n after rest) ≤ n)
          → (o : Option ℕ)
          → length (go_on plan (λ after rest. serial_from plan n after rest) state left o) ≤ suc n
      goes short None = omega arith
      goes short (Some b) = calls short b (calls_left left b)

-- few entries in all: a line can count them, and print each
pub entries_few : (plan : PlanFields) (scripts : List Script) → IsPlan plan → AreScriptsOf plan scripts
    → length (serial_journal plan (calls_of_scripts scripts)) < 2 ^ 32
unfolding serial_journal
entries_few plan scripts is h =
    let few = calls_few plan scripts is h in
    let short =
    serial_short plan (count_left (calls_of_scripts scripts)) (opening_state plan) (calls_of_scripts scripts) in
    omega (arith, few, short)

pub entries_short : (plan : PlanFields) (scripts : List Script) → IsPlan plan → AreScriptsOf plan scripts
    → length (serial_journal plan (calls_of_scripts scripts)) < 10 ^ 10
entries_short plan scripts is h = omega (arith, entries_few plan scripts is h)

-- the start of the run
pub begins : (plan : PlanFields) (scripts : List (List Call))
    → rest_of plan (opening_state plan) scripts ≡ serial_journal plan scripts
unfolding rest_of serial_journal
begins plan scripts = refl

-- one entry more
pub one_more : (plan : PlanFields) (done more : List Entry) (old new : LineState) (left after : List (List Call))
    (e : Entry) (all : List Entry) → done ++ rest_of plan old left ≡ all → Turns plan old left e new after
    → more ≡ done ++ e ∷ [] → more ++ rest_of plan new after ≡ all
one_more plan done more old new left after e all told turn is =
    ap (λ (xs : List Entry). xs ++ rest_of plan new after) is
    ∙ append_assoc done (e ∷ []) (rest_of plan new after)
    ∙ ap (λ (xs : List Entry). done ++ xs) (sym turn.next)
    ∙ told

-- the end of the run
pub no_more : (plan : PlanFields) (done : List Entry) (state : LineState) (left : List (List Call)) (all : List Entry)
    → done ++ rest_of plan state left ≡ all → next_box plan state left ≡ None → done ≡ all
no_more plan done state left all told none =
    sym (append-nil done) ∙ ap (λ (xs : List Entry). done ++ xs) (sym (rest_none plan state left none)) ∙ told
