-- A session as far as it has come, by one entry after another.
use Rattle.std.proofs.Common.{◌≡◌, ◌≢◌, ℕ, zero, suc, ◌+◌, ◌<◌, ◌≤◌, Bool, true, false, cond, eqb, ◌==◌, List, [], ◌∷◌}
use Rattle.std.proofs.Common.{◌++◌}
use Rattle.std.proofs.Common.{Some, None, length, map, drop, set, refl, sym, ap, ◌∙◌}
use Rattle.std.proofs.Common.{arith, append_assoc}
use Rattle.std.proofs.Common.{inl, inr}
use Rattle.std.proofs.lemmas.Bool.Decides.{eqb_tells}
use Rattle.std.proofs.lemmas.List.{append-nil, get_or-set_same, get_or-set_other, length_push, map-append, set-get_or}
use Rattle.std.proofs.lemmas.List.Elements.{filter-append}
use Rattle.line_plan.specs.Plans.{PlanFields}
use Rattle.line_law.specs.declared.call.Call.{Call}
use Rattle.line_law.specs.declared.call.Entry.{Entry}
use Rattle.line_law.specs.History.{IsLegal, after_entry, calls_of, entry_of, part_of, state_after, state_of}
use Rattle.line_law.specs.Known.{KnowsCall}
use Rattle.line_law.specs.Law.{MayCall, step}
use Rattle.line_law.specs.Serial.{AreLeft, AreScripts, calls_left, count_left, first_free}
use Rattle.line_law.specs.States.{LineState, box_at, opening_state}
use Rattle.line_law.proofs.Histories.{history_grows, history_states, state_grows}
use Rattle.line_law.proofs.Left.{count_next, has_box, left_next, may_call, moment_here, other_box}
use Rattle.line_law.proofs.SerialLaws.{left_opens}
use Rattle.line_law.proofs.Turns.{starts_at}
use Rattle.line_rehearsal.specs.Rehearsals.{left_after, left_then}
use Rattle.line_rehearsal.proofs.Free.{all_stopped}
use Rattle.box_session.specs.Sessions.{AreInTurn, IsTurn, last_moment}

-- The man of box b has made these calls, and these entries are all. What is left of the scripts may be made.
pub record IsSoFar (plan : PlanFields) (scripts : List (List Call)) (b : ℕ) (calls : List Call) (es : List Entry)
    : Type 0 where
  pub legal : IsLegal plan es
  pub left : AreLeft plan (state_of plan es) (left_after scripts es)
  pub his : calls_of b es ≡ calls
  pub moment : (box_at (state_of plan es) b).moment ≡ last_moment calls
  pub others : (c : ℕ) → c ≢ b → calls_of c es ++ calls_left (left_after scripts es) c ≡ calls_left scripts c
  pub idle : calls_left (left_after scripts es) b ≡ []
  pub turns : AreInTurn plan b (opening_state plan) scripts es
  pub count : length es + count_left (left_after scripts es) ≡ length calls + count_left scripts

-- ---- one entry more

calls_both : (b : ℕ) (xs ys : List Entry) → calls_of b (xs ++ ys) ≡ calls_of b xs ++ calls_of b ys
calls_both b xs ys =
    ap (λ (es : List Entry). map (λ e. e.call) es) (filter-append (λ (e : Entry). e.box_no == b) xs ys)
    ∙ map-append (λ (e : Entry). e.call) (part_of b xs) (part_of b ys)

call_here : (t : Bool) (e : Entry) → t ≡ true → map (λ (x : Entry). x.call) (cond t (e ∷ []) []) ≡ e.call ∷ []
call_here true e is = refl
call_here false e is = absurd cc

no_call_here : (t : Bool) (e : Entry) → t ≡ false → map (λ (x : Entry). x.call) (cond t (e ∷ []) []) ≡ []
no_call_here true e is = absurd cc
no_call_here false e is = refl

own_call : (b : ℕ) (es : List Entry) (e : Entry) → e.box_no ≡ b
    → calls_of b (es ++ e ∷ []) ≡ calls_of b es ++ e.call ∷ []
own_call b es e is = elim (eqb_tells e.box_no b) [
  | inl same ↦
      calls_both b es (e ∷ [])
      ∙ ap (λ (calls : List Call). calls_of b es ++ calls) (call_here (eqb e.box_no b) e same.0)
  | inr differ ↦ absurd (differ.1 is)
]

other_call : (b : ℕ) (es : List Entry) (e : Entry) → e.box_no ≢ b → calls_of b (es ++ e ∷ []) ≡ calls_of b es
other_call b es e other = elim (eqb_tells e.box_no b) [
  | inl same ↦ absurd (other same.1)
  | inr differ ↦
      calls_both b es (e ∷ [])
      ∙ ap (λ (calls : List Call). calls_of b es ++ calls) (no_call_here (eqb e.box_no b) e differ.0)
      ∙ append-nil (calls_of b es)
]

-- an entry more leaves of the scripts what they leave with a call of its box taken
pub left_more : (left : List (List Call)) (es : List Entry) (e : Entry)
    → left_after left (es ++ e ∷ []) ≡ left_then (left_after left es) e.box_no
left_more left [] e = refl
left_more left (d ∷ es) e = left_more (left_then left d.box_no) es e

turns_more : (plan : PlanFields) (b : ℕ) (state : LineState) (left : List (List Call)) (es : List Entry) (e : Entry)
    → AreInTurn plan b state left es → IsTurn plan b (state_after plan state es) (left_after left es) e
    → AreInTurn plan b state left (es ++ e ∷ [])
turns_more plan b state left [] e h turn = (turn, tt)
turns_more plan b state left (d ∷ es) e h turn =
    (h.0, turns_more plan b (after_entry plan state d) (left_then left d.box_no) es e h.1 turn)

-- the moment of the last of calls is that of a call more that comes behind them
pub last_more : (calls : List Call) (call : Call) → last_moment (calls ++ call ∷ []) ≡ call.moment
last_more [] call = refl
last_more (first ∷ []) call = refl
last_more (first ∷ (next ∷ calls)) call = last_more (next ∷ calls) call

-- ---- another box makes its next call

taken_part : (done : List Call) (call : Call) (calls rest script : List Call) → calls ≡ call ∷ rest
    → done ++ calls ≡ script → (done ++ call ∷ []) ++ rest ≡ script
taken_part done call calls rest script is h =
    append_assoc done (call ∷ []) rest ∙ ap (λ (cs : List Call). done ++ cs) (sym is) ∙ h

other_part : (scripts left : List (List Call)) (c d : ℕ) (call : Call) (rest : List Call) (es : List Entry) (e : Entry)
    → e.box_no ≡ c → e.call ≡ call → calls_left left c ≡ call ∷ rest
    → calls_of d es ++ calls_left left d ≡ calls_left scripts d
    → calls_of d (es ++ e ∷ []) ++ calls_left (set left c rest) d ≡ calls_left scripts d
other_part scripts left c d call rest es e box its is h = elim (eqb_tells d c) [
  | inl same ↦
      let own : e.box_no ≡ d = box ∙ sym same.1 in
      let here : calls_left left d ≡ call ∷ rest = rw same.1 is in
      let after : calls_left (set left c rest) d ≡ rest =
      rw same.1 (get_or-set_same left c rest [] (has_box left c call rest is)) in
      rw (own_call d es e own, its, after)
      (taken_part (calls_of d es) call (calls_left left d) rest (calls_left scripts d) here h)
  | inr differ ↦
      let other : e.box_no ≢ d = λ same. differ.1 (sym same ∙ box) in
      rw (other_call d es e other, get_or-set_other left c d rest [] differ.1) h
]

-- a session has come one entry further where another box that may go on makes its next call
pub other_more : (plan : PlanFields) (scripts : List (List Call)) (b c : ℕ) (calls : List Call) (es : List Entry)
    (call : Call) → IsSoFar plan scripts b calls es
    → first_free plan (state_of plan es) 0 (left_after scripts es) ≡ Some c
    → calls_left (left_after scripts es) c ≡ call ∷ drop 1 (calls_left (left_after scripts es) c)
    → IsSoFar plan scripts b calls (es ++ entry_of plan (state_of plan es) c call ∷ [])
other_more plan scripts b c calls es call h free is =
    let state = state_of plan es in
    let left = left_after scripts es in
    let rest = drop 1 (calls_left left c) in
    let e = entry_of plan state c call in
    let other : c ≢ b = λ same. absurd (let idle : calls_left left c ≡ [] = rw same h.idle in cc) in
    let own : b ≢ c = λ same. other (sym same) in
    let grown : state_of plan (es ++ e ∷ []) ≡ (step plan state c call).after = state_grows plan es e in
    let fewer : left_after scripts (es ++ e ∷ []) ≡ set left c rest = left_more scripts es e in
    record {
      legal = history_grows plan es c call h.legal (may_call plan state left c call rest h.left is);
      left = rw (grown, fewer) (left_next plan state left c call rest (history_states plan es).boxes h.left is);
      his = other_call b es e other ∙ h.his;
      moment = rw (grown, other_box plan state c b call own) h.moment;
      others = λ d differs. rw fewer (other_part scripts left c d call rest es e refl refl is (h.others d differs));
      idle = rw (fewer, get_or-set_other left c b rest [] own) h.idle;
      turns =
          turns_more plan b (opening_state plan) scripts es e h.turns
          (record { his = λ same. absurd (other same); other = λ differs. free });
      count = rw (fewer, length_push es e) (omega (arith, h.count, count_next left c call rest is));
    }

-- ---- the man makes a call

pub he_may : (plan : PlanFields) (scripts : List (List Call)) (b : ℕ) (calls : List Call) (es : List Entry)
    (call : Call) → IsSoFar plan scripts b calls es → KnowsCall plan b call → last_moment calls ≤ call.moment
    → MayCall plan (state_of plan es) b call
he_may plan scripts b calls es call h known later =
    record { known = known; later = omega (arith, h.moment, later) }

-- his box has nothing left before and after
pub idle_then : (left : List (List Call)) (b : ℕ) → calls_left left b ≡ [] → left_then left b ≡ left
idle_then left b idle =
    let nothing : drop 1 (calls_left left b) ≡ calls_left left b = ap (drop 1) idle ∙ sym idle in
    ap (λ (calls : List Call). set left b calls) nothing ∙ set-get_or left b []

-- a call of a man whose box has no script left leaves the others with calls that they may make
pub left_there : (plan : PlanFields) (state : LineState) (left : List (List Call)) (b : ℕ) (call : Call)
    → AreLeft plan state left → calls_left left b ≡ [] → AreLeft plan (step plan state b call).after left
left_there plan state left b call h idle =
    record {
      each = h.each;
      calls = λ c. elim (eqb_tells c b) [
        | inl same ↦ rw (same.1, idle) tt
        | inr differ ↦ rw (other_box plan state b c call differ.1) (h.calls c)
      ];
    }

-- a session has come one entry further where no other box may go on and the man makes a call
pub his_more : (plan : PlanFields) (scripts : List (List Call)) (b : ℕ) (calls : List Call) (es : List Entry)
    (call : Call) → IsSoFar plan scripts b calls es
    → first_free plan (state_of plan es) 0 (left_after scripts es) ≡ None
    → b < length plan.boxes → KnowsCall plan b call → last_moment calls ≤ call.moment
    → IsSoFar plan scripts b (calls ++ call ∷ []) (es ++ entry_of plan (state_of plan es) b call ∷ [])
his_more plan scripts b calls es call h none within known later =
    let state = state_of plan es in
    let left = left_after scripts es in
    let e = entry_of plan state b call in
    let shape = history_states plan es in
    let grown : state_of plan (es ++ e ∷ []) ≡ (step plan state b call).after = state_grows plan es e in
    let same : left_after scripts (es ++ e ∷ []) ≡ left = left_more scripts es e ∙ idle_then left b h.idle in
    record {
      legal = history_grows plan es b call h.legal (he_may plan scripts b calls es call h known later);
      left = rw (grown, same) (left_there plan state left b call h.left h.idle);
      his = own_call b es e refl ∙ ap (λ (cs : List Call). cs ++ call ∷ []) h.his;
      moment = rw (grown, last_more calls call) (moment_here plan state b call (omega (arith, shape.boxes, within)));
      others = λ c differs. rw (same, other_call c es e (λ own. differs (sym own))) (h.others c differs);
      idle = rw same h.idle;
      turns =
          turns_more plan b (opening_state plan) scripts es e h.turns
          (record { his = λ _. all_stopped plan state left none; other = λ differs. absurd (differs refl) });
      count = rw (same, length_push es e, length_push calls call) (omega (arith, h.count));
    }

-- ---- as it begins

-- a session begins with no call and no entry, and all scripts are left
pub so_far_begins : (plan : PlanFields) (scripts : List (List Call)) (b : ℕ) → AreScripts plan scripts
    → calls_left scripts b ≡ [] → IsSoFar plan scripts b [] []
so_far_begins plan scripts b own idle =
    record {
      legal = tt;
      left = left_opens plan scripts own;
      his = refl;
      moment = starts_at plan b;
      others = λ c differs. refl;
      idle = idle;
      turns = tt;
      count = refl;
    }
