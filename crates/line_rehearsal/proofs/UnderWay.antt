-- A line on which scripts are worked, as they begin and after each call.
use Rattle.std.proofs.Common.{◌≡◌, ℕ, ◌+◌, ◌<◌, ◌^◌, zero, suc, ◌≤◌, List, [], ◌∷◌, Some, length, drop, get_or, set}
use Rattle.std.proofs.Common.{replicate, sym, ap, ◌∙◌}
use Rattle.std.proofs.Common.{arith, subst}
use Rattle.std.proofs.lemmas.List.{length-replicate, length-set}
use Rattle.std.proofs.lemmas.List.Elements.{All-get_or}
use Rattle.line_plan.specs.Plans.{IsPlan, PlanFields}
use Rattle.line_law.specs.declared.call.Call.{Call}
use Rattle.line_law.specs.declared.call.Reply.{Reply}
use Rattle.line_law.specs.History.{opened}
use Rattle.line_law.specs.Law.{Done, step}
use Rattle.line_law.specs.Lines.{IsLineOf, PlainState}
use Rattle.line_law.specs.Serial.{AreLeft, calls_left, count_left, first_free}
use Rattle.line_law.specs.States.{LineState, opening_state}
use Rattle.line_law.proofs.Left.{count_next}
use Rattle.line_law.proofs.SerialLaws.{left_opens}
use Rattle.script_text.specs.Scripts.{most_calls}
use Rattle.script_text.specs.declared.script.Script.{Script}
use Rattle.text_fetch.specs.Runs.{AreScriptsOf}
use Rattle.line_rehearsal.specs.Rehearsals.{IsUnderWay, MakesNext}
use Rattle.line_rehearsal.proofs.Free.{is_next}
use Rattle.serial_working.specs.Rosters.{TakesCall, calls_of_scripts, head_of, left_of}
use Rattle.serial_working.proofs.LeftOf.{roster-at, roster-first, roster-length}
use Rattle.serial_working.proofs.SerialTurns.{box_there, call_there, calls_few, left_after, scripts_are, scripts_few}
use Rattle.serial_working.proofs.SerialTurns.{turns}

-- ---- as a line opens

none_made : (plan : PlanFields) (scripts : List Script) (plain : PlainState) → IsPlan plan
    → AreScriptsOf plan scripts → IsLineOf plan plain → plain ≡ opened plan
    → IsUnderWay plan scripts (replicate (length scripts) 0) plain
none_made plan scripts plain is own line as_opened =
    let first = roster-first scripts (length scripts) in
    let few = calls_few plan scripts is own in
    let begun : plain.calls ≡ 0 = ap (λ (p : PlainState). p.calls) as_opened in
    let left : AreLeft plan (opening_state plan) (calls_of_scripts scripts) =
    left_opens plan (calls_of_scripts scripts) (scripts_are plan scripts own) in
    record {
      line = line;
      short = scripts_few plan scripts own;
      counts = length-replicate (length scripts) 0;
      left = rw (first, ap (λ (p : PlainState). p.line) as_opened) left;
      few = rw first (omega (arith, few, begun));
    }

-- a line that opens, with no call made, may be worked by its scripts
pub way_opens : (plan : PlanFields) (scripts : List Script) (made : List ℕ) (plain : PlainState) → IsPlan plan
    → AreScriptsOf plan scripts → IsLineOf plan plain → plain ≡ opened plan → made ≡ replicate (length scripts) 0
    → IsUnderWay plan scripts made plain
way_opens plan scripts made plain is own line as_opened none =
    subst (λ (m : List ℕ). IsUnderWay plan scripts m plain) (sym none)
    (none_made plan scripts plain is own line as_opened)

-- ---- after each call

-- a line that is worked by its scripts is so after a box's next call too
pub way_goes_on : (plan : PlanFields) (scripts : List Script) (made after : List ℕ) (old new : PlainState) (b : ℕ)
    (call : Call) (reply : Reply) → IsUnderWay plan scripts made old
    → TakesCall (left_of (calls_of_scripts scripts) made) (left_of (calls_of_scripts scripts) after) b call
    → step plan old.line b call ≡ record { reply = reply; after = new.line } → IsLineOf plan new
    → new.calls ≡ old.calls + 1 → after ≡ set made b (get_or made b 0 + 1) → IsUnderWay plan scripts after new
way_goes_on plan scripts made after old new b call reply h takes told line calls counted =
    let left = left_of (calls_of_scripts scripts) made in
    let fewer : count_left left ≡ count_left (left_of (calls_of_scripts scripts) after) + 1 =
    rw takes.left (count_next left b call (drop 1 (calls_left left b)) takes.taken) in
    record {
      line = line;
      short = h.short;
      counts = ap (λ (xs : List ℕ). length xs) counted ∙ length-set made b _ ∙ h.counts;
      left =
          left_after plan old new.line left (left_of (calls_of_scripts scripts) after) b call reply h.line h.left takes
          told;
      few = omega (arith, fewer, h.few, calls);
    }

-- the answered call of the lowest box that may go on is the next entry of the serial order
pub makes_next : (plan : PlanFields) (scripts : List (List Call)) (made after : List ℕ) (old new : LineState) (b : ℕ)
    (call : Call) (reply : Reply) → first_free plan old 0 (left_of scripts made) ≡ Some b
    → TakesCall (left_of scripts made) (left_of scripts after) b call
    → step plan old b call ≡ record { reply = reply; after = new } → after ≡ set made b (get_or made b 0 + 1)
    → MakesNext plan scripts made old (record { box_no = b; call = call; reply = reply }) after new
makes_next plan scripts made after old new b call reply free takes told counted =
    record {
      turn =
          turns plan old new (left_of scripts made) (left_of scripts after) b call reply
          (is_next plan old (left_of scripts made) b free) takes told;
      line = sym (ap (λ (d : Done). d.after) told);
      left = takes.left;
      counted = counted;
      free = free;
    }

-- the box that goes on is a box of the line, and has a call left
pub goes_on_there : (plan : PlanFields) (scripts : List Script) (made : List ℕ) (state : LineState) (b : ℕ)
    → first_free plan state 0 (left_of (calls_of_scripts scripts) made) ≡ Some b → b < length scripts
goes_on_there plan scripts made state b free =
    let left = left_of (calls_of_scripts scripts) made in
    let there = box_there plan state left b (is_next plan state left b free) in
    omega (arith, there, roster-length scripts made)

-- the lowest box that may go on has a call left
pub has_call_left : (plan : PlanFields) (scripts : List Script) (made : List ℕ) (state : LineState) (b : ℕ)
    → first_free plan state 0 (left_of (calls_of_scripts scripts) made) ≡ Some b
    → 0 < length (calls_left (left_of (calls_of_scripts scripts) made) b)
has_call_left plan scripts made state b free =
    let left = left_of (calls_of_scripts scripts) made in
    call_there plan state left b (is_next plan state left b free)

-- ---- a box with a call left

no_script : Script
no_script = record { box_no = 0; calls = [] }

has_more : (n : ℕ) (calls : List Call) (call : Call) → Some call ≡ head_of (drop n calls) → n < length calls
has_more zero [] call e = absurd cc
has_more zero (first ∷ calls) call e = omega arith
has_more (suc n) [] call e = absurd cc
has_more (suc n) (first ∷ calls) call e = let rest = has_more n calls call e in omega (arith, rest)

-- it has made few calls, and so the number of the next is small
pub few_made : (plan : PlanFields) (scripts : List Script) (made : List ℕ) (plain : PlainState) (b : ℕ) (call : Call)
    → IsUnderWay plan scripts made plain → b < length scripts
    → Some call ≡ head_of (calls_left (left_of (calls_of_scripts scripts) made) b) → get_or made b 0 + 1 < 2 ^ 32
few_made plan scripts made plain b call h lt e =
    let at = roster-at scripts made b no_script h.counts lt in
    let few = All-get_or (λ (s : Script). length s.calls ≤ most_calls) scripts b no_script lt h.short in
    let more = has_more (get_or made b 0) (get_or scripts b no_script).calls call (e ∙ ap head_of at) in
    omega (arith, few, more)
