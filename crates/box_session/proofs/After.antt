-- A line, and what is left of the scripts, as entries leave them.
use Rattle.std.proofs.Common.{◌≡◌, ◌≢◌, ℕ, ◌+◌, ◌<◌, ◌≤◌, ◌^◌, List, [], ◌∷◌, ◌++◌, length, take, drop, get_or}
use Rattle.std.proofs.Common.{refl, sym, ap, subst, ◌∙◌, arith, inl, inr}
use Rattle.std.proofs.lemmas.Bool.Decides.{eqb_tells}
use Rattle.std.proofs.lemmas.List.{drop_more, get_or-set_other, get_or_default, length-append, length-take-le}
use Rattle.std.proofs.lemmas.List.{take-append-drop, take_all}
use Rattle.std.proofs.lemmas.List.{take_more}
use Rattle.line_plan.specs.Plans.{PlanFields}
use Rattle.line_law.specs.declared.call.Call.{Call}
use Rattle.line_law.specs.declared.call.Entry.{Entry}
use Rattle.line_law.specs.declared.call.Reply.{Reply}
use Rattle.line_law.specs.History.{IsLegal, after_entry, state_after, state_of}
use Rattle.line_law.specs.Law.{Done, MayCall, step}
use Rattle.line_law.specs.Lines.{PlainState}
use Rattle.line_law.specs.Serial.{calls_left}
use Rattle.line_law.specs.States.{LineState, opening_state}
use Rattle.line_law.proofs.Histories.{entry_determined, state_both}
use Rattle.line_rehearsal.specs.Rehearsals.{left_after, left_then}
use Rattle.line_rehearsal.proofs.Free.{is_next}
use Rattle.serial_working.proofs.SerialTurns.{box_there, call_there}
use Rattle.box_session.specs.Sessions.{AreInTurn, IsTurn}
use Rattle.box_session.specs.Works.{IsAfter, IsWorkedTo}
use Rattle.box_session.proofs.SoFar.{idle_then}

-- a line in this state, on which so many calls are made
abbrev pub plain_of : LineState → ℕ → PlainState
plain_of line calls = record { line = line; calls = calls }

same_plain : (plain : PlainState) (line : LineState) (calls : ℕ) → plain.line ≡ line → plain.calls ≡ calls
    → plain ≡ plain_of line calls
same_plain plain line calls e f =
    ap (λ (x : LineState). plain_of x plain.calls) e ∙ ap (λ (n : ℕ). plain_of line n) f

-- ---- one entry

-- the line behind one call, and the scripts without it, are as its entry leaves them
pub after_one : (plan : PlanFields) (before after : PlainState) (left rest : List (List Call)) (b : ℕ) (call : Call)
    (reply : Reply) → step plan before.line b call ≡ record { reply = reply; after = after.line }
    → after.calls ≡ before.calls + 1 → rest ≡ left_then left b
    → IsAfter plan before left (record { box_no = b; call = call; reply = reply } ∷ []) after rest
after_one plan before after left rest b call reply told counted is =
    record {
      line =
          same_plain after (step plan before.line b call).after (before.calls + 1)
          (sym (ap (λ (d : Done). d.after) told)) counted;
      is_left = is;
    }

-- an entry of a box whose script is done
pub after_idle : (plan : PlanFields) (before after : PlainState) (left : List (List Call)) (b : ℕ) (call : Call)
    (reply : Reply) → step plan before.line b call ≡ record { reply = reply; after = after.line }
    → after.calls ≡ before.calls + 1 → calls_left left b ≡ []
    → IsAfter plan before left (record { box_no = b; call = call; reply = reply } ∷ []) after left
after_idle plan before after left b call reply told counted idle =
    after_one plan before after left left b call reply told counted (sym (idle_then left b idle))

-- ---- one after another

left_both : (left : List (List Call)) (es more : List Entry)
    → left_after left (es ++ more) ≡ left_after (left_after left es) more
left_both left [] more = refl
left_both left (e ∷ es) more = left_both (left_then left e.box_no) es more

-- what entries leave, and then further ones from there, they leave together
pub after_both : (plan : PlanFields) (first middle last : PlainState) (left rest end : List (List Call))
    (es more : List Entry) → IsAfter plan first left es middle rest → IsAfter plan middle rest more last end
    → IsAfter plan first left (es ++ more) last end
after_both plan first middle last left rest end es more h k =
    let states : state_after plan middle.line more ≡ state_after plan first.line (es ++ more) =
    ap (λ (p : PlainState). state_after plan p.line more) h.line ∙ sym (state_both plan first.line es more) in
    let before : middle.calls ≡ first.calls + length es = ap (λ (p : PlainState). p.calls) h.line in
    let counts : middle.calls + length more ≡ first.calls + length (es ++ more) =
    omega (arith, before, length-append es more) in
    record {
      line = k.line ∙ same_plain (plain_of (state_after plan middle.line more) (middle.calls + length more))
          (state_after plan first.line (es ++ more)) (first.calls + length (es ++ more)) states counts;
      is_left = k.is_left ∙ ap (λ (l : List (List Call)). left_after l more) h.is_left ∙ sym (left_both left es more);
    }

-- what stands behind a journal
pub worked_on : (plan : PlanFields) (scripts : List (List Call)) (journal es all : List Entry)
    (middle last : PlainState) (left rest : List (List Call)) → IsWorkedTo plan scripts journal middle left
    → IsAfter plan middle left es last rest → all ≡ journal ++ es → IsWorkedTo plan scripts all last rest
worked_on plan scripts journal es all middle last left rest h k is =
    let first : PlainState = plain_of (opening_state plan) 0 in
    let zero_more : length journal ≡ 0 + length journal = omega arith in
    let here : IsAfter plan first scripts journal middle left = record {
      line = h.line ∙ ap (λ (n : ℕ). plain_of (state_of plan journal) n) zero_more;
      is_left = h.is_left;
    } in
    let both = after_both plan first middle last scripts left rest journal es here k in
    let more_zero : 0 + length (journal ++ es) ≡ length (journal ++ es) = omega arith in
    rw is (record {
      line = both.line ∙ ap (λ (n : ℕ). plain_of (state_of plan (journal ++ es)) n) more_zero;
      is_left = both.is_left;
    })

-- ---- each entry of a journal

turn_at : (plan : PlanFields) (b : ℕ) (state : LineState) (left : List (List Call)) (es more : List Entry) (e : Entry)
    → AreInTurn plan b state left (es ++ e ∷ more)
    → IsTurn plan b (state_after plan state es) (left_after left es) e
turn_at plan b state left [] more e h = h.0
turn_at plan b state left (d ∷ es) more e h =
    turn_at plan b (after_entry plan state d) (left_then left d.box_no) es more e h.1

split_at : (xs : List Entry) (i : ℕ) (e : Entry) → i < length xs → e ≡ get_or xs i e
    → xs ≡ take i xs ++ e ∷ drop (i + 1) xs
split_at xs i e lt is =
    sym (take-append-drop i xs) ∙ ap (λ (ys : List Entry). take i xs ++ ys) (drop_more xs i e lt)
    ∙ ap (λ (d : Entry). take i xs ++ d ∷ drop (i + 1) xs) (sym is)

-- of a journal that is worked again up to there, the next entry may be made
pub record IsNextOf (plan : PlanFields) (b : ℕ) (plain : PlainState) (left : List (List Call)) (e : Entry)
    : Type 0 where
  pub call : MayCall plan plain.line e.box_no e.call
  pub there : e.box_no ≢ b → e.box_no < length left
  pub more : e.box_no ≢ b → 0 < length (calls_left left e.box_no)
  pub own : e.box_no ≡ b → calls_left left b ≡ []

idle_then_too : (left : List (List Call)) (b c : ℕ) → calls_left left b ≡ [] → calls_left (left_then left c) b ≡ []
idle_then_too left b c idle = elim (eqb_tells b c) [
  | inl same ↦
      let there : calls_left (left_then left b) b ≡ [] =
      ap (λ (l : List (List Call)). calls_left l b) (idle_then left b idle) ∙ idle in
      subst (λ (k : ℕ). calls_left (left_then left k) b ≡ []) same.1 there
  | inr differ ↦ get_or-set_other left c b (drop 1 (calls_left left c)) [] differ.1 ∙ idle
]

idle_after : (left : List (List Call)) (b : ℕ) (es : List Entry) → calls_left left b ≡ []
    → calls_left (left_after left es) b ≡ []
idle_after left b [] idle = idle
idle_after left b (e ∷ es) idle = idle_after (left_then left e.box_no) b es (idle_then_too left b e.box_no idle)

pub next_of : (plan : PlanFields) (scripts : List (List Call)) (b : ℕ) (journal : List Entry) (i : ℕ)
    (plain : PlainState) (left : List (List Call)) (e : Entry) → IsLegal plan journal
    → AreInTurn plan b (opening_state plan) scripts journal → calls_left scripts b ≡ []
    → IsWorkedTo plan scripts (take i journal) plain left → i < length journal → e ≡ get_or journal i e
    → IsNextOf plan b plain left e
next_of plan scripts b journal i plain left e legal turns idle h lt is =
    let es = take i journal in
    let more = drop (i + 1) journal in
    let split = split_at journal i e lt is in
    let may =
    entry_determined plan es more e (subst (λ (xs : List Entry). IsLegal plan xs) split legal) in
    let turn =
    turn_at plan b (opening_state plan) scripts es more e
    (subst (λ (xs : List Entry). AreInTurn plan b (opening_state plan) scripts xs) split turns) in
    let state = state_of plan es in
    let rest = left_after scripts es in
    rw (h.line, h.is_left) (record {
      call = may.0;
      there = λ differs. box_there plan state rest e.box_no (is_next plan state rest e.box_no (turn.other differs));
      more = λ differs. call_there plan state rest e.box_no (is_next plan state rest e.box_no (turn.other differs));
      own = λ same. idle_after scripts b es idle;
    })

next_at : (plan : PlanFields) (scripts : List (List Call)) (b : ℕ) (journal : List Entry) (i : ℕ) (plain : PlainState)
    (left : List (List Call)) (d : Entry) → IsLegal plan journal → AreInTurn plan b (opening_state plan) scripts journal
    → calls_left scripts b ≡ [] → IsWorkedTo plan scripts (take i journal) plain left → i < length journal
    → IsNextOf plan b plain left (get_or journal i d)
next_at plan scripts b journal i plain left d legal turns idle h lt =
    next_of plan scripts b journal i plain left (get_or journal i d) legal turns idle h lt
    (get_or_default journal i d (get_or journal i d) lt)

-- the next entry of a session's journal is of a call that may be made where the line is worked up to it
pub next_may : (plan : PlanFields) (scripts : List (List Call)) (b : ℕ) (journal : List Entry) (i : ℕ)
    (plain : PlainState) (left : List (List Call)) (d : Entry) → IsLegal plan journal
    → AreInTurn plan b (opening_state plan) scripts journal → calls_left scripts b ≡ []
    → IsWorkedTo plan scripts (take i journal) plain left → i < length journal
    → MayCall plan plain.line (get_or journal i d).box_no (get_or journal i d).call
next_may plan scripts b journal i plain left d legal turns idle h lt =
    (next_at plan scripts b journal i plain left d legal turns idle h lt).call

-- where the next entry of a session's journal is the man's own, the script of his box is empty
pub next_own : (plan : PlanFields) (scripts : List (List Call)) (b : ℕ) (journal : List Entry) (i : ℕ)
    (plain : PlainState) (left : List (List Call)) (d : Entry) → IsLegal plan journal
    → AreInTurn plan b (opening_state plan) scripts journal → calls_left scripts b ≡ []
    → IsWorkedTo plan scripts (take i journal) plain left → i < length journal
    → (get_or journal i d).box_no ≡ b → calls_left left b ≡ []
next_own plan scripts b journal i plain left d legal turns idle h lt =
    (next_at plan scripts b journal i plain left d legal turns idle h lt).own

-- where the next entry of a session's journal is another box's, that box has a script
pub next_there : (plan : PlanFields) (scripts : List (List Call)) (b : ℕ) (journal : List Entry) (i : ℕ)
    (plain : PlainState) (left : List (List Call)) (d : Entry) → IsLegal plan journal
    → AreInTurn plan b (opening_state plan) scripts journal → calls_left scripts b ≡ []
    → IsWorkedTo plan scripts (take i journal) plain left → i < length journal
    → (get_or journal i d).box_no ≢ b → (get_or journal i d).box_no < length left
next_there plan scripts b journal i plain left d legal turns idle h lt =
    (next_at plan scripts b journal i plain left d legal turns idle h lt).there

-- where the next entry of a session's journal is another box's, that box has a call left
pub next_more : (plan : PlanFields) (scripts : List (List Call)) (b : ℕ) (journal : List Entry) (i : ℕ)
    (plain : PlainState) (left : List (List Call)) (d : Entry) → IsLegal plan journal
    → AreInTurn plan b (opening_state plan) scripts journal → calls_left scripts b ≡ []
    → IsWorkedTo plan scripts (take i journal) plain left → i < length journal
    → (get_or journal i d).box_no ≢ b → 0 < length (calls_left left (get_or journal i d).box_no)
next_more plan scripts b journal i plain left d legal turns idle h lt =
    (next_at plan scripts b journal i plain left d legal turns idle h lt).more

-- a line that is worked as far as a journal's first entries is worked one further by the next
pub worked_next : (plan : PlanFields) (scripts : List (List Call)) (journal : List Entry) (i : ℕ)
    (middle last : PlainState) (left rest : List (List Call)) (d : Entry)
    → IsWorkedTo plan scripts (take i journal) middle left
    → IsAfter plan middle left (get_or journal i d ∷ []) last rest → i < length journal
    → IsWorkedTo plan scripts (take (i + 1) journal) last rest
worked_next plan scripts journal i middle last left rest d h k lt =
    worked_on plan scripts (take i journal) (get_or journal i d ∷ []) (take (i + 1) journal) middle last left rest h k
    (take_more journal i d lt)

-- its calls are those of the entries up to there
pub few_worked : (plan : PlanFields) (scripts : List (List Call)) (journal : List Entry) (i : ℕ) (plain : PlainState)
    (left : List (List Call)) → IsWorkedTo plan scripts (take i journal) plain left → i < length journal
    → length journal < 2 ^ 32 → plain.calls < 2 ^ 32
few_worked plan scripts journal i plain left h lt few =
    let counted : plain.calls ≡ length (take i journal) = ap (λ (p : PlainState). p.calls) h.line in
    let taken = length-take-le i journal (omega arith) in
    omega (arith, counted, taken)

-- all of them are worked
pub worked_all : (plan : PlanFields) (scripts : List (List Call)) (journal : List Entry) (i : ℕ) (plain : PlainState)
    (left : List (List Call)) → IsWorkedTo plan scripts (take i journal) plain left → length journal ≤ i
    → IsWorkedTo plan scripts journal plain left
worked_all plan scripts journal i plain left h le =
    subst (λ (xs : List Entry). IsWorkedTo plan scripts xs plain left) (take_all i journal le) h
