-- A rehearsal that is over.
use Rattle.std.proofs.Common.{◌≡◌, ℕ, true, false, List, [], ◌∷◌, ◌++◌, Some, None, All, length, map, take, get_or}
use Rattle.std.proofs.Common.{◌==◌, sym, ap, subst, ◌∙◌, inl, inr}
use Rattle.std.proofs.lemmas.List.{length-map, map-append}
use Rattle.std.proofs.lemmas.List.Elements.{All-nil, All-cons, All-head, All-tail, filter-append}
use Rattle.std.proofs.Math.Seq.{take-append_seam}
use Rattle.line_plan.specs.Plans.{IsPlan, PlanFields}
use Rattle.line_law.specs.declared.call.Call.{Call}
use Rattle.line_law.specs.declared.call.Entry.{Entry}
use Rattle.line_law.specs.History.{IsLegal, after_entry, calls_of, part_of, state_after}
use Rattle.line_law.specs.Serial.{AreScripts, calls_left, first_free}
use Rattle.line_law.specs.States.{LineState, opening_state}
use Rattle.line_law.proofs.Histories.{prefix_legal}
use Rattle.line_law.proofs.SerialLaws.{journal_legal, journal_parts}
use Rattle.line_rehearsal.specs.declared.until.Until.{Until}
use Rattle.line_rehearsal.specs.Rehearsals.{IsOver, IsRehearsal, ends_with, left_after, left_then}
use Rattle.line_rehearsal.proofs.Free.{all_stopped}
use Rattle.line_rehearsal.proofs.SoFar.{AreTurns, IsSoFar}
use Rattle.serial_working.specs.Rosters.{left_of}
use Rattle.serial_working.specs.Serial.{rest_of}

-- none of these entries ends the rehearsal
abbrev pub AreOpen : Until → List Entry → Type 0
AreOpen until es = All (λ e. ends_with until e.reply ≡ false) es

-- ---- the calls of each box

calls_both : (b : ℕ) (xs ys : List Entry) → calls_of b (xs ++ ys) ≡ calls_of b xs ++ calls_of b ys
calls_both b xs ys =
    ap (λ (es : List Entry). map (λ e. e.call) es) (filter-append (λ (e : Entry). e.box_no == b) xs ys)
    ∙ map-append (λ (e : Entry). e.call) (part_of b xs) (part_of b ys)

count_is : (made : List ℕ) (b : ℕ) (es : List Entry) → get_or made b 0 ≡ length (part_of b es)
    → get_or made b 0 ≡ length (calls_of b es)
count_is made b es e = e ∙ sym (length-map (part_of b es) (λ (x : Entry). x.call))

first_calls : (b n : ℕ) (es rest : List Entry) (calls : List Call) → n ≡ length (calls_of b es)
    → calls_of b (es ++ rest) ≡ calls → calls_of b es ≡ take n calls
first_calls b n es rest calls e all =
    sym (ap (λ (k : ℕ). take k calls) e
    ∙ ap (take (length (calls_of b es))) (sym all ∙ calls_both b es rest)
    ∙ take-append_seam (calls_of b es) (calls_of b rest))

-- ---- each place before the end

turn_at : (plan : PlanFields) (state : LineState) (left : List (List Call)) (es more : List Entry) (e : Entry)
    → AreTurns plan state left (es ++ e ∷ more)
    → first_free plan (state_after plan state es) 0 (left_after left es) ≡ Some e.box_no
turn_at plan state left [] more e h = h.0
turn_at plan state left (d ∷ es) more e h =
    turn_at plan (after_entry plan state d) (left_then left d.box_no) es more e h.1

open_front : (until : Until) (es more : List Entry) → AreOpen until (es ++ more) → AreOpen until es
open_front until [] more h = All-nil (λ (e : Entry). ends_with until e.reply ≡ false)
open_front until (d ∷ es) more h =
    All-cons (λ (e : Entry). ends_with until e.reply ≡ false) d es
    (All-head (λ (e : Entry). ends_with until e.reply ≡ false) d (es ++ more) h)
    (open_front until es more (All-tail (λ (e : Entry). ends_with until e.reply ≡ false) d (es ++ more) h))

-- what stands before an entry of a list stands before its last
open_before : (until : Until) (front es more : List Entry) (last e : Entry) → front ++ last ∷ [] ≡ es ++ e ∷ more
    → AreOpen until front → AreOpen until es
open_before until front [] more last e is h = All-nil (λ (x : Entry). ends_with until x.reply ≡ false)
open_before until [] (d ∷ []) more last e is h = absurd cc
open_before until [] (d ∷ (c ∷ es)) more last e is h = absurd cc
open_before until (f ∷ front) (d ∷ es) more last e is h =
    let same : f ≡ d = cc in
    let rest : front ++ last ∷ [] ≡ es ++ e ∷ more = cc in
    All-cons (λ (x : Entry). ends_with until x.reply ≡ false) d es
    (subst (λ (x : Entry). ends_with until x.reply ≡ false) same
    (All-head (λ (x : Entry). ends_with until x.reply ≡ false) f front h))
    (open_before until front es more last e rest
    (All-tail (λ (x : Entry). ends_with until x.reply ≡ false) f front h))

-- ---- over

rehearsal_over : (plan : PlanFields) (scripts : List (List Call)) (until : Until) (made : List ℕ) (state : LineState)
    (es : List Entry) → IsPlan plan → AreScripts plan scripts → IsSoFar plan scripts made state es
    → ((front more : List Entry) (e : Entry) → es ≡ front ++ e ∷ more → AreOpen until front)
    → IsOver plan scripts until es → IsRehearsal plan scripts until es made
rehearsal_over plan scripts until made state es is own h before over =
    record {
      legal =
          prefix_legal plan es (rest_of plan state (left_of scripts made))
          (subst (λ (xs : List Entry). IsLegal plan xs) (sym h.rest) (journal_legal plan scripts is own));
      begins = (rest_of plan state (left_of scripts made), h.rest);
      counts = λ b. count_is made b es (h.counts b);
      calls = λ b. first_calls b (get_or made b 0) es (rest_of plan state (left_of scripts made))
          (calls_left scripts b) (count_is made b es (h.counts b))
          (ap (λ (xs : List Entry). calls_of b xs) h.rest ∙ journal_parts plan scripts b);
      left = h.left;
      earlier = λ front more e split. record {
        before = before front more e split;
        free = turn_at plan (opening_state plan) scripts front more e
            (subst (λ (xs : List Entry). AreTurns plan (opening_state plan) scripts xs) split h.turns);
      };
      over = over;
    }

-- no box may go on
pub over_stopped : (plan : PlanFields) (scripts : List (List Call)) (until : Until) (made : List ℕ)
    (state : LineState) (es : List Entry) → IsPlan plan → AreScripts plan scripts
    → IsSoFar plan scripts made state es → AreOpen until es
    → first_free plan state 0 (left_of scripts made) ≡ None → IsRehearsal plan scripts until es made
over_stopped plan scripts until made state es is own h kept none =
    rehearsal_over plan scripts until made state es is own h
    (λ front more e split. open_front until front (e ∷ more)
    (subst (λ (xs : List Entry). AreOpen until xs) split kept))
    (inl (rw (h.reached, h.left) (all_stopped plan state (left_of scripts made) none)))

-- the last call ends it
pub over_ended : (plan : PlanFields) (scripts : List (List Call)) (until : Until) (made : List ℕ) (state : LineState)
    (front es : List Entry) (last : Entry) → IsPlan plan → AreScripts plan scripts
    → IsSoFar plan scripts made state es → AreOpen until front → es ≡ front ++ last ∷ []
    → ends_with until last.reply ≡ true → IsRehearsal plan scripts until es made
over_ended plan scripts until made state front es last is own h kept all ends =
    rehearsal_over plan scripts until made state es is own h
    (λ before more e split. open_before until front before more last e (sym all ∙ split) kept)
    (inr (record { front = front; last = last; is = all; ends = ends }))
