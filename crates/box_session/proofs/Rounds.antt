-- The others go on, one call after another.
use Rattle.std.proofs.Common.{◌≡◌, ℕ, ◌+◌, ◌<◌, ◌^◌, List, [], ◌∷◌, ◌++◌, Some, None, drop, refl, sym, ap, subst, ◌∙◌}
use Rattle.std.proofs.Common.{arith}
use Rattle.std.proofs.Common.{append_assoc, length}
use Rattle.std.proofs.lemmas.List.{append-nil}
use mathlib.Core.List.{IsPrefix}
use Rattle.line_plan.specs.Plans.{PlanFields}
use Rattle.line_law.specs.declared.call.Call.{Call}
use Rattle.line_law.specs.declared.call.Entry.{Entry}
use Rattle.line_law.specs.declared.call.Reply.{Reply}
use Rattle.line_law.specs.Law.{step}
use Rattle.line_law.specs.Lines.{IsLineOf, PlainState}
use Rattle.line_law.specs.Serial.{calls_left, count_left, first_free}
use Rattle.line_law.specs.States.{LineState}
use Rattle.line_law.proofs.Left.{count_next}
use Rattle.line_rehearsal.proofs.Free.{is_next}
use Rattle.serial_working.specs.Rosters.{TakesCall}
use Rattle.serial_working.proofs.SerialTurns.{box_there, call_there, left_after}
use Rattle.box_session.specs.Others.{call_from, others_from}
use Rattle.box_session.specs.Works.{IsAfter, IsGoingOn}
use Rattle.box_session.proofs.After.{after_both, after_idle, plain_of}
use Rattle.box_session.proofs.GoingOn.{others_next, others_none}
use Rattle.box_session.proofs.SoFar.{left_there}

-- ---- a box makes its next call

-- the lowest box that may go on has a script
pub free_there : (plan : PlanFields) (state : LineState) (left : List (List Call)) (b : ℕ)
    → first_free plan state 0 left ≡ Some b → b < length left
free_there plan state left b free = box_there plan state left b (is_next plan state left b free)

-- the lowest box that may go on has a call left
pub free_call : (plan : PlanFields) (state : LineState) (left : List (List Call)) (b : ℕ)
    → first_free plan state 0 left ≡ Some b → 0 < length (calls_left left b)
free_call plan state left b free = call_there plan state left b (is_next plan state left b free)

-- where a box takes its next call, one call fewer is left
pub fewer_left : (left rest : List (List Call)) (b : ℕ) (call : Call) → TakesCall left rest b call
    → count_left left ≡ count_left rest + 1
fewer_left left rest b call takes =
    rw takes.left (count_next left b call (drop 1 (calls_left left b)) takes.taken)

-- a line on which scripts may be worked is one after a box's next call too
pub going_next : (plan : PlanFields) (old new : PlainState) (left rest : List (List Call)) (b : ℕ) (call : Call)
    (reply : Reply) → IsGoingOn plan old left → TakesCall left rest b call
    → step plan old.line b call ≡ record { reply = reply; after = new.line } → IsLineOf plan new
    → new.calls ≡ old.calls + 1 → IsGoingOn plan new rest
going_next plan old new left rest b call reply h takes told line counted =
    let fewer = fewer_left left rest b call takes in
    record {
      line = line;
      left = left_after plan old new.line left rest b call reply h.line h.left takes told;
      few = omega (arith, fewer, h.few, counted);
    }

-- where a box that may go on makes its next call, what the others do is that entry and what they do from there
pub others_then : (plan : PlanFields) (old new : LineState) (left rest : List (List Call)) (b : ℕ) (call : Call)
    (reply : Reply) → first_free plan old 0 left ≡ Some b → TakesCall left rest b call
    → step plan old b call ≡ record { reply = reply; after = new }
    → others_from plan old left
    ≡ record { box_no = b; call = call; reply = reply } ∷ others_from plan new rest
others_then plan old new left rest b call reply free takes told =
    others_next plan old left b call free takes.taken ∙ rw (told, ← takes.left) refl

-- ---- all of them

-- behind the entries before they go on stand those that they have made
pub record IsRound (plan : PlanFields) (first : PlainState) (begun : List (List Call)) (before : List Entry)
    (plain : PlainState) (left : List (List Call)) (entries : List Entry) : Type 0 where
  pub done : List Entry
  pub all : entries ≡ before ++ done
  pub rest : done ++ others_from plan plain.line left ≡ others_from plan first.line begun
  pub after : IsAfter plan first begun done plain left
  pub going : IsGoingOn plan plain left

-- before the boxes go on, none of their entries is made
pub round_begins : (plan : PlanFields) (first : PlainState) (begun : List (List Call)) (before : List Entry)
    → IsGoingOn plan first begun → IsRound plan first begun before first begun before
round_begins plan first begun before going =
    let none : first.calls ≡ first.calls + 0 = omega arith in
    record {
      done = [];
      all = sym (append-nil before);
      rest = refl;
      after = record { line = ap (λ (n : ℕ). plain_of first.line n) none; is_left = refl };
      going = going;
    }

-- the next entry of the boxes that go on is one more of those that they have made
pub round_more : (plan : PlanFields) (first : PlainState) (begun : List (List Call)) (before : List Entry)
    (old new : PlainState) (left rest : List (List Call)) (entries more : List Entry) (e : Entry)
    → IsRound plan first begun before old left entries
    → others_from plan old.line left ≡ e ∷ others_from plan new.line rest
    → IsAfter plan old left (e ∷ []) new rest → IsGoingOn plan new rest → more ≡ entries ++ e ∷ []
    → IsRound plan first begun before new rest more
round_more plan first begun before old new left rest entries more e h next after going is =
    record {
      done = h.done ++ e ∷ [];
      all = is ∙ ap (λ (xs : List Entry). xs ++ e ∷ []) h.all ∙ append_assoc before h.done (e ∷ []);
      rest =
          append_assoc h.done (e ∷ []) (others_from plan new.line rest)
          ∙ ap (λ (xs : List Entry). h.done ++ xs) (sym next)
          ∙ h.rest;
      after = after_both plan first old new begun left rest h.done (e ∷ []) h.after after;
      going = going;
    }

pub round_grows : (plan : PlanFields) (first : PlainState) (begun : List (List Call)) (before : List Entry)
    (plain : PlainState) (left : List (List Call)) (entries more : List Entry)
    → IsRound plan first begun before plain left entries → more ≡ entries → IsPrefix before more
round_grows plan first begun before plain left entries more h is = (h.done, sym (is ∙ h.all))

all_done : (plan : PlanFields) (first : PlainState) (begun : List (List Call)) (before : List Entry)
    (plain : PlainState) (left : List (List Call)) (entries : List Entry)
    (h : IsRound plan first begun before plain left entries) → first_free plan plain.line 0 left ≡ None
    → h.done ≡ others_from plan first.line begun
all_done plan first begun before plain left entries h none =
    sym (append-nil h.done)
    ∙ ap (λ (xs : List Entry). h.done ++ xs) (sym (others_none plan plain.line left none))
    ∙ h.rest

-- where no box may go on any more, behind the entries before stand all that the boxes do
pub round_entries : (plan : PlanFields) (first : PlainState) (begun : List (List Call)) (before : List Entry)
    (plain : PlainState) (left : List (List Call)) (entries : List Entry)
    → IsRound plan first begun before plain left entries → first_free plan plain.line 0 left ≡ None
    → entries ≡ before ++ others_from plan first.line begun
round_entries plan first begun before plain left entries h none =
    h.all ∙ ap (λ (xs : List Entry). before ++ xs) (all_done plan first begun before plain left entries h none)

-- where no box may go on any more, the line is as all that the boxes do leaves it
pub round_after : (plan : PlanFields) (first : PlainState) (begun : List (List Call)) (before : List Entry)
    (plain : PlainState) (left : List (List Call)) (entries : List Entry)
    → IsRound plan first begun before plain left entries → first_free plan plain.line 0 left ≡ None
    → IsAfter plan first begun (others_from plan first.line begun) plain left
round_after plan first begun before plain left entries h none =
    subst (λ (xs : List Entry). IsAfter plan first begun xs plain left)
    (all_done plan first begun before plain left entries h none) h.after

-- ---- the man makes a call, and they go on

-- a line on which scripts may be worked is one after a call of the man too
pub going_there : (plan : PlanFields) (old new : PlainState) (left : List (List Call)) (b : ℕ) (call : Call)
    (reply : Reply) → IsGoingOn plan old left → old.calls + count_left left + 1 < 2 ^ 32 → calls_left left b ≡ []
    → step plan old.line b call ≡ record { reply = reply; after = new.line } → IsLineOf plan new
    → new.calls ≡ old.calls + 1 → IsGoingOn plan new left
going_there plan old new left b call reply h few idle told line counted =
    let there = left_there plan old.line left b call h.left idle in
    record { line = line; left = rw told at there; few = omega (arith, few, counted) }

-- the man's call with its reply, and then all that the others do, is what his call comes to
pub call_is : (plan : PlanFields) (old new : LineState) (left : List (List Call)) (b : ℕ) (call : Call) (reply : Reply)
    → step plan old b call ≡ record { reply = reply; after = new }
    → record { box_no = b; call = call; reply = reply } ∷ others_from plan new left ≡ call_from plan old left b call
unfolding call_from
call_is plan old new left b call reply told = rw told refl

-- the line is as the man's call and all that the others do behind it leave it
pub call_after : (plan : PlanFields) (old new last : PlainState) (left end : List (List Call)) (b : ℕ) (call : Call)
    (reply : Reply) → IsAfter plan new left (others_from plan new.line left) last end
    → step plan old.line b call ≡ record { reply = reply; after = new.line } → new.calls ≡ old.calls + 1
    → calls_left left b ≡ [] → IsAfter plan old left (call_from plan old.line left b call) last end
call_after plan old new last left end b call reply after told counted idle =
    let e : Entry = record { box_no = b; call = call; reply = reply } in
    let his = after_idle plan old new left b call reply told counted idle in
    subst (λ (es : List Entry). IsAfter plan old left es last end)
    (call_is plan old.line new.line left b call reply told)
    (after_both plan old new last left left end (e ∷ []) (others_from plan new.line left) his after)

-- an entry put behind a journal, and others behind it, stand behind the journal together
pub call_entries : (before pushed all others : List Entry) (e : Entry) → pushed ≡ before ++ e ∷ []
    → all ≡ pushed ++ others → all ≡ before ++ (e ∷ others)
call_entries before pushed all others e is more =
    more ∙ ap (λ (xs : List Entry). xs ++ others) is ∙ append_assoc before (e ∷ []) others

-- a list that begins with one that begins with the first begins with the first
pub prefix_on : (before pushed all : List Entry) (e : Entry) → pushed ≡ before ++ e ∷ [] → IsPrefix pushed all
    → IsPrefix before all
prefix_on before pushed all e is h = (
  e ∷ h.0,
  sym (append_assoc before (e ∷ []) h.0) ∙ ap (λ (xs : List Entry). xs ++ h.0) (sym is) ∙ h.1,
)
