-- What a session keeps, from call to call.
use Rattle.std.proofs.Common.{◌≡◌, ℕ, zero, suc, ◌+◌, ◌-◌, ◌<◌, ◌≤◌, ◌^◌, Bool, true, false, eqb, IsTrue, List}
use Rattle.std.proofs.Common.{[], ◌∷◌, ◌++◌}
use Rattle.std.proofs.Common.{Some, All, length, get_or, inl, inr, slice_get, take, sym, ap, subst, ◌∙◌, arith}
use Rattle.std.proofs.Common.{append_assoc}
use Rattle.std.proofs.lemmas.Bool.Decides.{eqb_tells}
use Rattle.std.proofs.lemmas.List.{nil_from_length, append-nil, length-map, length_push, map-append}
use Rattle.std.proofs.lemmas.List.{take_at}
use Rattle.std.proofs.lemmas.List.Elements.{All-map}
use Rattle.std.proofs.lemmas.List.Sums.{sum_by-le}
use Rattle.std.specs.Prelude.{◌↔◌}
use mathlib.Core.List.{IsPrefix}
use Rattle.line_plan.specs.Plans.{IsPlan, PlanFields}
use Rattle.line_law.specs.declared.call.Call.{Call}
use Rattle.line_law.specs.declared.call.Entry.{Entry}
use Rattle.line_law.specs.History.{state_of}
use Rattle.line_law.specs.Law.{MayCall}
use Rattle.line_law.specs.Lines.{IsLineOf, PlainState}
use Rattle.line_law.specs.Serial.{AreCalls, calls_left, count_left}
use Rattle.line_law.specs.States.{LineState, opening_state}
use Rattle.line_law.proofs.KeepingLaws.{history_keeps}
use Rattle.line_law.proofs.Turns.{calls_in_turn}
use Rattle.line_rehearsal.specs.Rehearsals.{left_after}
use Rattle.script_text.specs.Scripts.{most_calls}
use Rattle.script_text.specs.declared.script.Script.{Script}
use Rattle.serial_working.specs.Rosters.{calls_of_scripts}
use Rattle.serial_working.proofs.LeftOf.{calls-at}
use Rattle.serial_working.proofs.SerialTurns.{boxes_few, scripts_are, scripts_few}
use Rattle.text_fetch.specs.Runs.{AreScriptsOf}
use Rattle.box_session.specs.declared.made_call.MadeCall.{MadeCall}
use Rattle.box_session.specs.declared.made_call.TheConstants.{MOST_MADE}
use Rattle.box_session.specs.Others.{call_from, others_from}
use Rattle.box_session.specs.Sessions.{IsSession, SessionFields, journal_of, last_moment, session_journal}
use Rattle.box_session.specs.Sessions.{with_call}
use Rattle.box_session.specs.Works.{ArePlaced, IsAfter, IsGoingOn, IsKept, IsWorkedTo, calls_made}
use Rattle.box_session.proofs.After.{worked_on}
use Rattle.box_session.proofs.Journals.{IsSettled, session_grows, session_is, settled, settled_call}
use Rattle.box_session.proofs.SoFar.{IsSoFar, so_far_begins}

-- ---- few calls in all

pub few_in_all : (plan : PlanFields) (scripts : List Script) → IsPlan plan → AreScriptsOf plan scripts
    → count_left (calls_of_scripts scripts) ≤ 640000
few_in_all plan scripts is own =
    let boxes = boxes_few plan is in
    let all : All (λ calls. length calls ≤ most_calls) (calls_of_scripts scripts) =
    All-map (λ (calls : List Call). length calls ≤ most_calls) (λ (script : Script). script.calls) scripts
    (scripts_few plan scripts own) in
    let bound = sum_by-le (λ (calls : List Call). length calls) most_calls (calls_of_scripts scripts) all in
    let mapped = length-map scripts (λ script. script.calls) in
    omega (arith, own.each)

-- ---- the line of a session

pub can_go_on : (plan : PlanFields) (scripts : List (List Call)) (b : ℕ) (calls : List Call) (es : List Entry)
    (plain : PlainState) (left : List (List Call)) → IsPlan plan → IsSoFar plan scripts b calls es
    → IsWorkedTo plan scripts es plain left → length calls + count_left scripts < 2 ^ 32 → IsGoingOn plan plain left
can_go_on plan scripts b calls es plain left is h worked few =
    rw (worked.line, worked.is_left) (record {
      line = history_keeps plan es is h.legal;
      left = h.left;
      few = omega (arith, h.count, few);
    })

-- a line that opens may be worked on by its scripts
pub opened_goes_on : (plan : PlanFields) (scripts : List Script) (b : ℕ) (plain : PlainState) (left : List (List Call))
    → IsPlan plan → AreScriptsOf plan scripts → calls_left (calls_of_scripts scripts) b ≡ []
    → IsWorkedTo plan (calls_of_scripts scripts) [] plain left → IsGoingOn plan plain left
opened_goes_on plan scripts b plain left is own idle worked =
    let few = few_in_all plan scripts is own in
    can_go_on plan (calls_of_scripts scripts) b [] [] plain left is
    (so_far_begins plan (calls_of_scripts scripts) b (scripts_are plan scripts own) idle) worked (omega (arith, few))

-- ---- as it begins

opening_entries : (plan : PlanFields) (scripts : List (List Call)) (b : ℕ) (plain : PlainState)
    (left : List (List Call)) → IsWorkedTo plan scripts [] plain left
    → others_from plan plain.line left ≡ session_journal plan scripts b []
unfolding session_journal
opening_entries plan scripts b plain left h =
    ap (λ (p : PlainState). others_from plan p.line left) h.line
    ∙ ap (λ (l : List (List Call)). others_from plan (opening_state plan) l) h.is_left

-- a session begins with no call of the man, and the others have gone on as far as they may
pub kept_begins : (plan : PlanFields) (b : ℕ) (scripts : List Script) (before entries : List Entry)
    (made : List MadeCall) (first plain : PlainState) (begun left : List (List Call)) → AreScriptsOf plan scripts
    → b < length plan.boxes → calls_left (calls_of_scripts scripts) b ≡ []
    → IsWorkedTo plan (calls_of_scripts scripts) [] first begun → before ≡ [] → made ≡ []
    → entries ≡ before ++ others_from plan first.line begun
    → IsAfter plan first begun (others_from plan first.line begun) plain left
    → IsKept plan b scripts entries made true plain left
kept_begins plan b scripts before entries made first plain begun left own within idle worked empty none is after =
    let all : entries ≡ others_from plan first.line begun =
    is ∙ ap (λ (xs : List Entry). xs ++ others_from plan first.line begun) empty in
    let here : IsKept plan b scripts entries [] true plain left = record {
      own = own;
      box = within;
      idle = idle;
      few = omega arith;
      calls = tt;
      journal = all ∙ opening_entries plan (calls_of_scripts scripts) b first begun worked;
      places = tt;
      worked = λ _.
          worked_on plan (calls_of_scripts scripts) [] (others_from plan first.line begun) entries first plain begun
          left worked after all;
    } in
    rw none here

-- ---- what is known of it

-- where a session is kept, its journal is made of the man's calls and the others' scripts, and no other box may go
-- on
pub kept_settled : (plan : PlanFields) (b : ℕ) (scripts : List Script) (entries : List Entry) (made : List MadeCall)
    (w : Bool) (plain : PlainState) (left : List (List Call)) → IsKept plan b scripts entries made w plain left
    → IsSettled plan (calls_of_scripts scripts) b (calls_made made) entries
kept_settled plan b scripts entries made w plain left h =
    subst (λ (xs : List Entry). IsSettled plan (calls_of_scripts scripts) b (calls_made made) xs) (sym h.journal)
    (settled plan (calls_of_scripts scripts) b (calls_made made) (scripts_are plan scripts h.own) h.box h.idle h.calls)

pub kept_session : (plan : PlanFields) (b : ℕ) (scripts : List Script) (entries : List Entry) (made : List MadeCall)
    (w : Bool) (plain : PlainState) (left : List (List Call)) → IsPlan plan
    → IsKept plan b scripts entries made w plain left
    → IsSession plan (calls_of_scripts scripts) b (calls_made made)
    (session_journal plan (calls_of_scripts scripts) b (calls_made made))
kept_session plan b scripts entries made w plain left is h =
    session_is plan (calls_of_scripts scripts) b (calls_made made) is (scripts_are plan scripts h.own) h.box h.idle
    h.calls

pub kept_few : (plan : PlanFields) (b : ℕ) (scripts : List Script) (entries : List Entry) (made : List MadeCall)
    (w : Bool) (plain : PlainState) (left : List (List Call)) → IsKept plan b scripts entries made w plain left
    → length (calls_made made) ≤ MOST_MADE
kept_few plan b scripts entries made w plain left h =
    let mapped = length-map made (λ (m : MadeCall). m.call) in omega (arith, mapped, h.few)

-- its entries and what is left can be counted, also where a call more is made
pub kept_count : (plan : PlanFields) (b : ℕ) (scripts : List Script) (entries : List Entry) (made : List MadeCall)
    (w : Bool) (plain : PlainState) (left : List (List Call)) → IsPlan plan
    → IsKept plan b scripts entries made w plain left
    → length entries + count_left (left_after (calls_of_scripts scripts) entries) ≤ 1000640000
kept_count plan b scripts entries made w plain left is h =
    let few = few_in_all plan scripts is h.own in
    let mine = kept_few plan b scripts entries made w plain left h in
    let so_far = (kept_settled plan b scripts entries made w plain left h).so_far in
    omega (arith, few, mine, so_far.count)

-- the journal of a session has fewer than 2 ^ 32 entries
pub kept_short : (plan : PlanFields) (b : ℕ) (scripts : List Script) (entries : List Entry) (made : List MadeCall)
    (w : Bool) (plain : PlainState) (left : List (List Call)) → IsPlan plan
    → IsKept plan b scripts entries made w plain left → length entries < 2 ^ 32
kept_short plan b scripts entries made w plain left is h =
    let few = kept_count plan b scripts entries made w plain left is h in omega (arith, few)

-- its line is one of the plan, as the journal leaves it
pub kept_line : (plan : PlanFields) (b : ℕ) (scripts : List Script) (entries : List Entry) (made : List MadeCall)
    (w : Bool) (plain : PlainState) (left : List (List Call)) → IsTrue w
    → IsKept plan b scripts entries made w plain left
    → plain ≡ record {
      line = state_of plan (session_journal plan (calls_of_scripts scripts) b (calls_made made));
      calls = length (session_journal plan (calls_of_scripts scripts) b (calls_made made));
    }
kept_line plan b scripts entries made w plain left worked h = rw (← h.journal) (h.worked worked).line

-- where the line of a session is worked, it may be worked on by what is left of the scripts
pub kept_going : (plan : PlanFields) (b : ℕ) (scripts : List Script) (entries : List Entry) (made : List MadeCall)
    (w : Bool) (plain : PlainState) (left : List (List Call)) → IsPlan plan → IsTrue w
    → IsKept plan b scripts entries made w plain left → IsGoingOn plan plain left
kept_going plan b scripts entries made w plain left is worked h =
    let few = few_in_all plan scripts is h.own in
    let mine = kept_few plan b scripts entries made w plain left h in
    can_go_on plan (calls_of_scripts scripts) b (calls_made made) entries plain left is
    (kept_settled plan b scripts entries made w plain left h).so_far (h.worked worked) (omega (arith, few, mine))

-- where the line of a session is worked, a call of the man and all that are left can still be counted
pub kept_room : (plan : PlanFields) (b : ℕ) (scripts : List Script) (entries : List Entry) (made : List MadeCall)
    (w : Bool) (plain : PlainState) (left : List (List Call)) → IsPlan plan → IsTrue w
    → IsKept plan b scripts entries made w plain left → plain.calls + count_left left + 1 < 2 ^ 32
kept_room plan b scripts entries made w plain left is worked h =
    let few = kept_count plan b scripts entries made w plain left is h in
    let at = h.worked worked in
    let calls : plain.calls ≡ length entries = ap (λ (p : PlainState). p.calls) at.line in
    let rest : count_left left ≡ count_left (left_after (calls_of_scripts scripts) entries) =
    ap (λ (l : List (List Call)). count_left l) at.is_left in
    omega (arith, few, calls, rest)

-- where the line of a session is worked, the man's own box has no script left
pub kept_idle : (plan : PlanFields) (b : ℕ) (scripts : List Script) (entries : List Entry) (made : List MadeCall)
    (w : Bool) (plain : PlainState) (left : List (List Call)) → IsTrue w
    → IsKept plan b scripts entries made w plain left → calls_left left b ≡ []
kept_idle plan b scripts entries made w plain left worked h =
    rw (h.worked worked).is_left (kept_settled plan b scripts entries made w plain left h).so_far.idle

-- ---- the line is worked again

pub kept_worked : (plan : PlanFields) (b : ℕ) (scripts : List Script) (entries : List Entry) (made : List MadeCall)
    (w : Bool) (plain again : PlainState) (left rest : List (List Call))
    → IsKept plan b scripts entries made w plain left
    → IsWorkedTo plan (calls_of_scripts scripts) entries again rest → IsKept plan b scripts entries made true again rest
kept_worked plan b scripts entries made w plain again left rest h worked =
    record {
      own = h.own;
      box = h.box;
      idle = h.idle;
      few = h.few;
      calls = h.calls;
      journal = h.journal;
      places = h.places;
      worked = λ _. worked;
    }

-- ---- a call more

made_more : (made more : List MadeCall) (call : Call) (place : ℕ)
    → more ≡ made ++ record { call = call; place = place } ∷ [] → calls_made more ≡ calls_made made ++ call ∷ []
made_more made more call place is =
    ap calls_made is ∙ map-append (λ (m : MadeCall). m.call) made (record { call = call; place = place } ∷ [])

placed_both : (plan : PlanFields) (scripts : List (List Call)) (b : ℕ) (done : List Call) (made : List MadeCall)
    (m : MadeCall) → ArePlaced plan scripts b done made
    → m.place ≡ length (session_journal plan scripts b (done ++ calls_made made))
    → ArePlaced plan scripts b done (made ++ m ∷ [])
placed_both plan scripts b done [] m h at =
    (at ∙ ap (λ (calls : List Call). length (session_journal plan scripts b calls)) (append-nil done), tt)
placed_both plan scripts b done (first ∷ made) m h at = (
  h.0,
  placed_both plan scripts b (done ++ first.call ∷ []) made m h.1
      (at ∙ ap (λ (calls : List Call). length (session_journal plan scripts b calls))
      (sym (append_assoc done (first.call ∷ []) (calls_made made)))),
)

-- a session keeps what it keeps with a call of the man more and what the others do behind it
pub kept_made : (plan : PlanFields) (b : ℕ) (scripts : List Script) (entries all : List Entry)
    (made more : List MadeCall) (w : Bool) (plain after : PlainState) (left rest : List (List Call)) (call : Call)
    → IsPlan plan → IsKept plan b scripts entries made w plain left → IsTrue w → length made < MOST_MADE
    → MayCall plan plain.line b call → all ≡ entries ++ call_from plan plain.line left b call
    → more ≡ made ++ record { call = call; place = length entries } ∷ []
    → IsAfter plan plain left (call_from plan plain.line left b call) after rest
    → IsKept plan b scripts all more w after rest
kept_made plan b scripts entries all made more w plain after left rest call is h worked room may grown is_more at =
    let roster = calls_of_scripts scripts in
    let here = h.worked worked in
    let calls = made_more made more call (length entries) is_more in
    let before = kept_settled plan b scripts entries made w plain left h in
    let line : plain.line ≡ state_of plan entries = ap (λ (p : PlainState). p.line) here.line in
    let allowed : MayCall plan (state_of plan entries) b call =
    subst (λ (s : LineState). MayCall plan s b call) line may in
    let told : all ≡ with_call plan roster b entries call =
    grown ∙ ap (λ (s : LineState). entries ++ call_from plan s left b call) line
    ∙ ap (λ (l : List (List Call)). entries ++ call_from plan (state_of plan entries) l b call) here.is_left in
    let journal : all ≡ session_journal plan roster b (calls_made made ++ call ∷ []) =
    told ∙ ap (λ (xs : List Entry). with_call plan roster b xs call) h.journal
    ∙ sym (session_grows plan roster b (calls_made made) call) in
    let now : IsSettled plan roster b (calls_made made ++ call ∷ []) all =
    subst (λ (xs : List Entry). IsSettled plan roster b (calls_made made ++ call ∷ []) xs) (sym told)
    (settled_call plan roster b (calls_made made) entries call h.box allowed before) in
    let in_turn : AreCalls plan b 0 (calls_made made ++ call ∷ []) =
    subst (λ (cs : List Call). AreCalls plan b 0 cs) now.so_far.his (calls_in_turn plan all b is now.so_far.legal) in
    let counted : length more ≡ length made + 1 = ap (λ (xs : List MadeCall). length xs) is_more ∙ length_push made _ in
    record {
      own = h.own;
      box = h.box;
      idle = h.idle;
      few = omega (arith, counted, room);
      calls = subst (λ (cs : List Call). AreCalls plan b 0 cs) (sym calls) in_turn;
      journal = journal ∙ ap (λ (cs : List Call). session_journal plan roster b cs) (sym calls);
      places =
          rw is_more (placed_both plan roster b [] made (record { call = call; place = length entries }) h.places
          (ap (λ (xs : List Entry). length xs) h.journal));
      worked = λ _.
          worked_on plan roster entries (call_from plan plain.line left b call) all plain after left rest here at grown;
    }

-- ---- a call is taken back, or can't be made

pub prefix_back : {A : Type 0} (xs ys : List A) (n : ℕ) → IsPrefix xs ys → n ≡ length xs → take n ys ≡ xs
prefix_back xs ys n h is = ap (take n) (sym h.1) ∙ take_at xs h.0 n (sym is)

pub kept_unworked : (plan : PlanFields) (b : ℕ) (scripts : List Script) (entries all : List Entry)
    (made more : List MadeCall) (w : Bool) (plain after : PlainState) (left rest : List (List Call))
    → IsKept plan b scripts entries made w plain left → all ≡ entries → more ≡ made
    → IsKept plan b scripts all more false after rest
kept_unworked plan b scripts entries all made more w plain after left rest h same_entries same_made =
    let here : IsKept plan b scripts entries made false after rest = record {
      own = h.own;
      box = h.box;
      idle = h.idle;
      few = h.few;
      calls = h.calls;
      journal = h.journal;
      places = h.places;
      worked = λ no. absurd cc;
    } in
    rw (same_entries, same_made) here

calls_first : (plan : PlanFields) (b moment : ℕ) (calls more : List Call) → AreCalls plan b moment (calls ++ more)
    → AreCalls plan b moment calls
calls_first plan b moment [] more h = tt
calls_first plan b moment (call ∷ calls) more h = (h.0, h.1, calls_first plan b call.moment calls more h.2)

placed_first : (plan : PlanFields) (scripts : List (List Call)) (b : ℕ) (done : List Call) (made : List MadeCall)
    (m : MadeCall) → ArePlaced plan scripts b done (made ++ m ∷ []) → ArePlaced plan scripts b done made
placed_first plan scripts b done [] m h = tt
placed_first plan scripts b done (first ∷ made) m h =
    (h.0, placed_first plan scripts b (done ++ first.call ∷ []) made m h.1)

placed_last : (plan : PlanFields) (scripts : List (List Call)) (b : ℕ) (done : List Call) (made : List MadeCall)
    (m : MadeCall) → ArePlaced plan scripts b done (made ++ m ∷ [])
    → m.place ≡ length (session_journal plan scripts b (done ++ calls_made made))
placed_last plan scripts b done [] m h =
    h.0 ∙ ap (λ (calls : List Call). length (session_journal plan scripts b calls)) (sym (append-nil done))
placed_last plan scripts b done (first ∷ made) m h =
    placed_last plan scripts b (done ++ first.call ∷ []) made m h.1
    ∙ ap (λ (calls : List Call). length (session_journal plan scripts b calls))
    (append_assoc done (first.call ∷ []) (calls_made made))

-- a session keeps what it keeps where the man's last call is taken back: its line has to be worked again
pub kept_back : (plan : PlanFields) (b : ℕ) (scripts : List Script) (entries fewer : List Entry)
    (made rest : List MadeCall) (m : MadeCall) (w : Bool) (plain : PlainState) (left : List (List Call))
    → IsKept plan b scripts entries made w plain left → made ≡ rest ++ m ∷ [] → fewer ≡ take m.place entries
    → IsKept plan b scripts fewer rest false plain left
kept_back plan b scripts entries fewer made rest m w plain left h is cut =
    let roster = calls_of_scripts scripts in
    let placed : ArePlaced plan roster b [] (rest ++ m ∷ []) =
    subst (λ (xs : List MadeCall). ArePlaced plan roster b [] xs) is h.places in
    let calls : calls_made made ≡ calls_made rest ++ m.call ∷ [] = made_more rest made m.call m.place is in
    let journal : entries ≡ with_call plan roster b (session_journal plan roster b (calls_made rest)) m.call =
    h.journal ∙ ap (λ (cs : List Call). session_journal plan roster b cs) calls
    ∙ session_grows plan roster b (calls_made rest) m.call in
    let place = placed_last plan roster b [] rest m placed in
    let counted : length made ≡ length rest + 1 = ap (λ (xs : List MadeCall). length xs) is ∙ length_push rest m in
    record {
      own = h.own;
      box = h.box;
      idle = h.idle;
      few = omega (arith, counted, h.few);
      calls =
          calls_first plan b 0 (calls_made rest) (m.call ∷ [])
          (subst (λ (cs : List Call). AreCalls plan b 0 cs) calls h.calls);
      journal =
          cut ∙ ap (take m.place) journal
          ∙ take_at (session_journal plan roster b (calls_made rest)) _ m.place (sym place);
      places = placed_first plan roster b [] rest m placed;
      worked = λ no. absurd cc;
    }

-- ---- as callers see it

abbrev pub view_of : PlanFields → ℕ → List Script → List MadeCall → Bool → SessionFields
view_of plan b scripts made w = record {
  plan = plan;
  box_no = b;
  scripts = calls_of_scripts scripts;
  calls = calls_made made;
  is_worked = w;
}

-- where a session says that its line is worked, it is
pub seen_worked : (plan : PlanFields) (b : ℕ) (scripts : List Script) (made : List MadeCall) (w : Bool)
    (session : SessionFields) → view_of plan b scripts made w ≡ session → IsTrue session.is_worked → IsTrue w
seen_worked plan b scripts made w session e h = subst (λ (s : SessionFields). IsTrue s.is_worked) (sym e) h

-- where a session shows fewer calls than the most, fewer are made
pub seen_room : (plan : PlanFields) (b : ℕ) (scripts : List Script) (made : List MadeCall) (w : Bool)
    (session : SessionFields) → view_of plan b scripts made w ≡ session → length session.calls < MOST_MADE
    → length made < MOST_MADE
seen_room plan b scripts made w session e h =
    let mapped = length-map made (λ (m : MadeCall). m.call) in
    let same : length (calls_made made) ≡ length session.calls = ap (λ (s : SessionFields). length s.calls) e in
    omega (arith, mapped, same, h)

-- the journal that a session shows is that of the man's calls and the others' scripts, each entry in its turn
pub seen_session : (plan : PlanFields) (b : ℕ) (scripts : List Script) (entries : List Entry) (made : List MadeCall)
    (w : Bool) (plain : PlainState) (left : List (List Call)) (session : SessionFields)
    → view_of plan b scripts made w ≡ session → IsPlan plan → IsKept plan b scripts entries made w plain left
    → IsSession session.plan session.scripts session.box_no session.calls (journal_of session)
seen_session plan b scripts entries made w plain left session e is h =
    subst (λ (s : SessionFields). IsSession s.plan s.scripts s.box_no s.calls (journal_of s)) e
    (kept_session plan b scripts entries made w plain left is h)

-- the man's calls that a session shows are calls that he may make in turn from the start of the day
pub seen_calls : (plan : PlanFields) (b : ℕ) (scripts : List Script) (entries : List Entry) (made : List MadeCall)
    (w : Bool) (plain : PlainState) (left : List (List Call)) (session : SessionFields)
    → view_of plan b scripts made w ≡ session → IsKept plan b scripts entries made w plain left
    → AreCalls session.plan session.box_no 0 session.calls
seen_calls plan b scripts entries made w plain left session e h =
    subst (λ (s : SessionFields). AreCalls s.plan s.box_no 0 s.calls) e h.calls

-- the box that a session shows is a box of its plan
pub seen_box : (plan : PlanFields) (b : ℕ) (scripts : List Script) (entries : List Entry) (made : List MadeCall)
    (w : Bool) (plain : PlainState) (left : List (List Call)) (session : SessionFields)
    → view_of plan b scripts made w ≡ session → IsKept plan b scripts entries made w plain left
    → session.box_no < length session.plan.boxes
seen_box plan b scripts entries made w plain left session e h =
    subst (λ (s : SessionFields). s.box_no < length s.plan.boxes) e h.box

-- the journal that a session shows has fewer than 2 ^ 32 entries
pub seen_short : (plan : PlanFields) (b : ℕ) (scripts : List Script) (entries : List Entry) (made : List MadeCall)
    (w : Bool) (plain : PlainState) (left : List (List Call)) (session : SessionFields)
    → view_of plan b scripts made w ≡ session → IsPlan plan → IsKept plan b scripts entries made w plain left
    → length (journal_of session) < 2 ^ 32
seen_short plan b scripts entries made w plain left session e is h =
    subst (λ (s : SessionFields). length (journal_of s) < 2 ^ 32) e
    (subst (λ (es : List Entry). length es < 2 ^ 32) h.journal
    (kept_short plan b scripts entries made w plain left is h))

-- the plan that a session shows meets every condition of a plan
pub seen_plan : (plan : PlanFields) (b : ℕ) (scripts : List Script) (made : List MadeCall) (w : Bool)
    (session : SessionFields) → view_of plan b scripts made w ≡ session → IsPlan plan → IsPlan session.plan
seen_plan plan b scripts made w session e is = subst (λ (s : SessionFields). IsPlan s.plan) e is

-- where a session says that its line is worked, it is a line of its plan
pub seen_line : (plan : PlanFields) (b : ℕ) (scripts : List Script) (entries : List Entry) (made : List MadeCall)
    (w : Bool) (plain : PlainState) (left : List (List Call)) (session : SessionFields)
    → view_of plan b scripts made w ≡ session → IsTrue session.is_worked → IsPlan plan
    → IsKept plan b scripts entries made w plain left → IsLineOf session.plan plain
seen_line plan b scripts entries made w plain left session e worked is h =
    subst (λ (s : SessionFields). IsLineOf s.plan plain) e
    (kept_going plan b scripts entries made w plain left is (seen_worked plan b scripts made w session e worked) h).line

-- where a session says that its line is worked, fewer than 2 ^ 32 calls are made on it
pub seen_few : (plan : PlanFields) (b : ℕ) (scripts : List Script) (entries : List Entry) (made : List MadeCall)
    (w : Bool) (plain : PlainState) (left : List (List Call)) (session : SessionFields)
    → view_of plan b scripts made w ≡ session → IsTrue session.is_worked → IsPlan plan
    → IsKept plan b scripts entries made w plain left → plain.calls < 2 ^ 32
seen_few plan b scripts entries made w plain left session e worked is h =
    let room = kept_room plan b scripts entries made w plain left is
    (seen_worked plan b scripts made w session e worked) h in
    omega (arith, room)

-- a call that the man may make by the journal that a session shows, he may make on its line
pub seen_may : (plan : PlanFields) (b : ℕ) (scripts : List Script) (entries : List Entry) (made : List MadeCall)
    (w : Bool) (plain : PlainState) (left : List (List Call)) (session : SessionFields) (call : Call)
    → view_of plan b scripts made w ≡ session → IsTrue session.is_worked
    → IsKept plan b scripts entries made w plain left
    → MayCall session.plan (state_of session.plan (journal_of session)) session.box_no call
    → MayCall plan plain.line b call
seen_may plan b scripts entries made w plain left session call e worked h may =
    let line = kept_line plan b scripts entries made w plain left (seen_worked plan b scripts made w session e worked) h
    in
    let here =
    subst (λ (s : SessionFields). MayCall s.plan (state_of s.plan (journal_of s)) s.box_no call) (sym e) may in
    rw line here

last_at : (first : MadeCall) (made : List MadeCall) (n : ℕ) (m : MadeCall) → n ≡ length made
    → slice_get (first ∷ made) n ≡ Some m → m.call.moment ≡ last_moment (calls_made (first ∷ made))
last_at first [] zero m e is = let same : first ≡ m = cc in ap (λ (x : MadeCall). x.call.moment) (sym same)
last_at first [] (suc n) m e is = absurd (omega arith)
last_at first (next ∷ made) zero m e is = absurd (omega arith)
last_at first (next ∷ made) (suc n) m e is = last_at next made n m (omega arith) is

last_of : (made : List MadeCall) (m : MadeCall) → slice_get made (length made - 1) ≡ Some m
    → m.call.moment ≡ last_moment (calls_made made)
last_of [] m is = absurd cc
last_of (first ∷ made) m is = last_at first made (length (first ∷ made) - 1) m (omega arith) is

-- the moment of the man's last call is the last moment that a session shows
pub seen_moment : (plan : PlanFields) (b : ℕ) (scripts : List Script) (made lent : List MadeCall) (w : Bool)
    (session : SessionFields) (m : MadeCall) → view_of plan b scripts made w ≡ session → lent ≡ made
    → Some m ≡ slice_get lent (length lent - 1) → m.call.moment ≡ last_moment session.calls
seen_moment plan b scripts made lent w session m e same is =
    last_of made m (ap (λ (xs : List MadeCall). slice_get xs (length xs - 1)) (sym same) ∙ sym is)
    ∙ ap (λ (s : SessionFields). last_moment s.calls) e

-- as before, but for whether the line is worked
pub same_but_work : (old new : SessionFields) → new ≡ old → new ≡ record old { is_worked = new.is_worked }
same_but_work old new e =
    e ∙ ap (λ (s : SessionFields). record old { is_worked = s.is_worked }) (sym e)

-- ---- a script without calls

-- the test for a script without calls is passed exactly where its box has none to make
pub empty_here : (scripts : List Script) (b : ℕ) (d : Script) (t : Bool) → b < length scripts
    → t ≡ eqb (length (get_or scripts b d).calls) 0 → IsTrue t ↔ (calls_left (calls_of_scripts scripts) b ≡ [])
empty_here scripts b d t lt e =
    let at : calls_left (calls_of_scripts scripts) b ≡ (get_or scripts b d).calls = calls-at scripts b d lt in
    elim (eqb_tells (length (get_or scripts b d).calls) 0) [
      | inl none ↦ (
        λ h. at ∙ nil_from_length (get_or scripts b d).calls none.1,
        λ h. e ∙ none.0,
      )
      | inr some ↦ (
        λ h. absurd (let yes : true ≡ false = sym h ∙ e ∙ some.0 in cc),
        λ h. absurd (some.1 (ap (λ (calls : List Call). length calls) (sym at ∙ h))),
      )
    ]
