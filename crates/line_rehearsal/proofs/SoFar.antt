-- A rehearsal as far as it has come.
use Rattle.std.proofs.Common.{◌≡◌, ◌≢◌, ℕ, zero, suc, ◌+◌, ◌<◌, Bool, true, false, cond, eqb, List, [], ◌∷◌, ◌++◌, Some}
use Rattle.std.proofs.Common.{length}
use Rattle.std.proofs.Common.{get_or, set, replicate, refl, sym, ap, ◌∙◌, arith, append_assoc, inl, inr}
use Rattle.std.proofs.lemmas.Bool.Decides.{eqb_tells}
use Rattle.std.proofs.lemmas.List.{get_or-set_same, get_or-set_other, length-append}
use Rattle.std.proofs.lemmas.List.Elements.{filter-append}
use Rattle.line_plan.specs.Plans.{PlanFields}
use Rattle.line_law.specs.declared.call.Call.{Call}
use Rattle.line_law.specs.declared.call.Entry.{Entry}
use Rattle.line_law.specs.History.{after_entry, opened, part_of, state_after, state_of}
use Rattle.line_law.specs.Lines.{PlainState}
use Rattle.line_law.specs.Serial.{first_free, serial_journal}
use Rattle.line_law.specs.States.{LineState, opening_state}
use Rattle.line_law.proofs.Histories.{state_grows}
use Rattle.line_rehearsal.specs.Rehearsals.{MakesNext, left_after, left_then}
use Rattle.serial_working.specs.Rosters.{left_of}
use Rattle.serial_working.specs.Serial.{rest_of}
use Rattle.serial_working.proofs.LeftOf.{left_first}
use Rattle.serial_working.proofs.SerialTurns.{begins}

-- from a state on, with these calls left, each of these entries is of the lowest box that may go on
abbrev pub AreTurns : PlanFields → LineState → List (List Call) → List Entry → Type 0
AreTurns plan state left [] = Unit {0}
AreTurns plan state left (e ∷ es) =
    (first_free plan state 0 left ≡ Some e.box_no)
    × AreTurns plan (after_entry plan state e) (left_then left e.box_no) es

-- these entries are made, and the line is in this state: each box has made so many calls, each entry was the turn of
-- its box, and what the serial order goes on with is still to come
pub record IsSoFar (plan : PlanFields) (scripts : List (List Call)) (made : List ℕ) (state : LineState)
    (es : List Entry) : Type 0 where
  pub reached : state_of plan es ≡ state
  pub left : left_after scripts es ≡ left_of scripts made
  pub counts : (b : ℕ) → get_or made b 0 ≡ length (part_of b es)
  pub rest : es ++ rest_of plan state (left_of scripts made) ≡ serial_journal plan scripts
  pub turns : AreTurns plan (opening_state plan) scripts es

none_made : (n b : ℕ) → get_or (replicate n 0) b 0 ≡ length (part_of b [])
none_made zero b = refl
none_made (suc n) zero = refl
none_made (suc n) (suc b) = none_made n b

-- as it begins
so_far_none : (plan : PlanFields) (scripts : List (List Call)) (n : ℕ)
    → IsSoFar plan scripts (replicate n 0) (opening_state plan) []
so_far_none plan scripts n =
    record {
      reached = refl;
      left = sym (left_first scripts n);
      counts = λ b. none_made n b;
      rest = ap (rest_of plan (opening_state plan)) (left_first scripts n) ∙ begins plan scripts;
      turns = tt;
    }

-- a rehearsal begins with no call made and no entry, on a line that opens
pub so_far_begins : (plan : PlanFields) (scripts : List (List Call)) (n : ℕ) (made : List ℕ) (plain : PlainState)
    (es : List Entry) → made ≡ replicate n 0 → plain ≡ opened plan → es ≡ []
    → IsSoFar plan scripts made plain.line es
so_far_begins plan scripts n made plain es e f g =
    rw (e, ap (λ (p : PlainState). p.line) f, g) (so_far_none plan scripts n)

-- ---- one call more

turns_more : (plan : PlanFields) (state : LineState) (left : List (List Call)) (es : List Entry) (e : Entry)
    → AreTurns plan state left es
    → first_free plan (state_after plan state es) 0 (left_after left es) ≡ Some e.box_no
    → AreTurns plan state left (es ++ e ∷ [])
turns_more plan state left [] e h f = (f, tt)
turns_more plan state left (d ∷ es) e h f =
    (h.0, turns_more plan (after_entry plan state d) (left_then left d.box_no) es e h.1 f)

left_more : (left : List (List Call)) (es : List Entry) (e : Entry)
    → left_after left (es ++ e ∷ []) ≡ left_then (left_after left es) e.box_no
left_more left [] e = refl
left_more left (d ∷ es) e = left_more (left_then left d.box_no) es e

one_entry : (t : Bool) (e : Entry) → length (cond t (e ∷ []) []) ≡ cond t 1 0
one_entry true e = refl
one_entry false e = refl

part_more : (b : ℕ) (es : List Entry) (e : Entry)
    → length (part_of b (es ++ e ∷ [])) ≡ length (part_of b es) + cond (eqb e.box_no b) 1 0
part_more b es e =
    ap (λ (xs : List Entry). length xs) (filter-append (λ (x : Entry). eqb x.box_no b) es (e ∷ []))
    ∙ length-append (part_of b es) (part_of b (e ∷ []))
    ∙ ap (λ (n : ℕ). length (part_of b es) + n) (one_entry (eqb e.box_no b) e)

made_more : (made : List ℕ) (es : List Entry) (e : Entry) (b : ℕ) → e.box_no < length made
    → ((c : ℕ) → get_or made c 0 ≡ length (part_of c es))
    → get_or (set made e.box_no (get_or made e.box_no 0 + 1)) b 0 ≡ length (part_of b (es ++ e ∷ []))
made_more made es e b within h = elim (eqb_tells e.box_no b) [
  | inl same ↦
      rw (part_more b es e, same.0, ← same.1, get_or-set_same made e.box_no (get_or made e.box_no 0 + 1) 0 within)
      (ap (λ (n : ℕ). n + 1) (h e.box_no))
  | inr differ ↦
      let other : b ≢ e.box_no = λ f. differ.1 (sym f) in
      let counted = h b in
      rw (part_more b es e, differ.0, get_or-set_other made e.box_no b _ 0 other) (omega arith)
]

-- a rehearsal has come one entry further with the next entry of the serial order
pub so_far_more : (plan : PlanFields) (scripts : List (List Call)) (made after : List ℕ) (old new : LineState)
    (es more : List Entry) (e : Entry) → IsSoFar plan scripts made old es → MakesNext plan scripts made old e after new
    → e.box_no < length made → more ≡ es ++ e ∷ [] → IsSoFar plan scripts after new more
so_far_more plan scripts made after old new es more e h m within is =
    let here : IsSoFar plan scripts after new (es ++ e ∷ []) = record {
      reached = state_grows plan es e ∙ ap (λ (s : LineState). after_entry plan s e) h.reached ∙ sym m.line;
      left =
          left_more scripts es e ∙ ap (λ (left : List (List Call)). left_then left e.box_no) h.left ∙ sym m.left;
      counts = λ b. rw m.counted (made_more made es e b within h.counts);
      rest =
          append_assoc es (e ∷ []) (rest_of plan new (left_of scripts after))
          ∙ ap (λ (xs : List Entry). es ++ xs) (sym m.turn.next)
          ∙ h.rest;
      turns =
          turns_more plan (opening_state plan) scripts es e h.turns
          (ap (λ (s : LineState). first_free plan s 0 (left_after scripts es)) h.reached
          ∙ ap (λ (left : List (List Call)). first_free plan old 0 left) h.left
          ∙ m.free);
    } in
    rw is here
