-- The boxes go on by their scripts, one entry after another.
use Rattle.std.proofs.Common.{◌≡◌, ℕ, ◌+◌, ◌<◌, ◌^◌, false, List, [], ◌∷◌, ◌++◌, Some, None, drop, length}
use Rattle.std.proofs.Common.{refl, sym, ap, subst, ◌∙◌, arith, append_assoc}
use Rattle.std.specs.Prelude.{nat_lt}
use Rattle.std.proofs.lemmas.Bool.{ltb-false}
use Rattle.std.proofs.lemmas.List.{append-nil, nil_from_length}
use Rattle.line_plan.specs.Plans.{IsPlan, PlanFields}
use Rattle.line_law.specs.declared.call.Call.{Call}
use Rattle.line_law.specs.declared.call.Entry.{Entry}
use Rattle.line_law.specs.declared.call.Reply.{Reply}
use Rattle.line_law.specs.History.{state_of}
use Rattle.line_law.specs.Law.{Done, MayCall, step}
use Rattle.line_law.specs.Lines.{IsLineOf, PlainState}
use Rattle.line_law.specs.Serial.{AreLeft, calls_left, first_free}
use Rattle.line_law.specs.States.{LineState}
use Rattle.line_law.proofs.Histories.{state_grows}
use Rattle.line_law.proofs.Left.{may_call}
use Rattle.line_rehearsal.specs.Rehearsals.{left_after, left_then}
use Rattle.serial_working.specs.Rosters.{TakesCall, head_of}
use Rattle.serial_working.proofs.SerialTurns.{left_after as left_behind}
use Rattle.box_session.specs.Others.{others_from}
use Rattle.box_session.proofs.GoingOn.{others_next, others_none}
use Rattle.box_session.proofs.Rounds.{fewer_left}
use Rattle.box_session.proofs.SoFar.{left_there}
use Rattle.line_service.specs.Calls.{MayFollow, with_entry}
use Rattle.line_service.specs.Services.{IsHeld, IsWorked, ServiceFields, gone_on, others_of}
use Rattle.line_service.proofs.Kept.{held_on, kept_line, kept_next, longer, may_on_line, shown}

-- ---- what a line that is worked may do

-- it is one of the plan
pub worked_line : (plan : PlanFields) (es : List Entry) (left : List (List Call)) (plain : PlainState) → IsPlan plan
    → IsWorked plan es left plain → IsLineOf plan plain
worked_line plan es left plain is h = kept_line plan es plain is h.kept

-- it has made few calls
pub worked_few : (plan : PlanFields) (es : List Entry) (left : List (List Call)) (plain : PlainState)
    → IsWorked plan es left plain → plain.calls < 2 ^ 32
worked_few plan es left plain h =
    let calls : plain.calls ≡ length es = ap (λ (p : PlainState). p.calls) h.kept.line in
    omega (arith, calls, h.kept.few)

-- it stands where its entries lead
pub worked_state : (plan : PlanFields) (es : List Entry) (left : List (List Call)) (plain : PlainState)
    → IsWorked plan es left plain → plain.line ≡ state_of plan es
worked_state plan es left plain h = ap (λ (p : PlainState). p.line) h.kept.line

-- a box may make the next call of its script
pub worked_may : (plan : PlanFields) (es : List Entry) (left : List (List Call)) (plain : PlainState) (b : ℕ)
    (call : Call) → IsWorked plan es left plain → Some call ≡ head_of (calls_left left b)
    → MayCall plan plain.line b call
worked_may plan es left plain b call h is =
    may_on_line plan es plain b call h.kept (go (calls_left left b) refl is) where
      go : (calls : List Call) → calls_left left b ≡ calls → Some call ≡ head_of calls
          → MayCall plan (state_of plan es) b call
      go [] e f = absurd cc
      go (first ∷ calls) e f =
          let same : first ≡ call = cc in
          subst (λ (c : Call). MayCall plan (state_of plan es) b c) same
          (may_call plan (state_of plan es) left b first calls h.may e)

-- ---- the next call of a script

-- its entry is one that the law allows there, of a service without scripts
script_entry : (plan : PlanFields) (es : List Entry) (left rest : List (List Call)) (plain new : PlainState) (b : ℕ)
    (call : Call) (reply : Reply) → IsWorked plan es left plain → TakesCall left rest b call
    → step plan plain.line b call ≡ record { reply = reply; after = new.line }
    → MayFollow (shown plan es []) (record { box_no = b; call = call; reply = reply })
script_entry plan es left rest plain new b call reply h takes told =
    let at = worked_state plan es left plain h in
    let answered : (step plan (state_of plan es) b call).reply ≡ reply =
    ap (λ (s : LineState). (step plan s b call).reply) (sym at) ∙ ap (λ (d : Done). d.reply) told in
    let fewer = fewer_left left rest b call takes in
    record {
      call = may_call plan (state_of plan es) left b call (drop 1 (calls_left left b)) h.may takes.taken;
      told = ap (λ (r : Reply). record { box_no = b; call = call; reply = r }) (sym answered);
      own = refl;
      room = omega (arith, fewer, h.few);
    }

-- behind it the line is worked one entry further
pub worked_script : (plan : PlanFields) (es all : List Entry) (left rest : List (List Call)) (plain new : PlainState)
    (b : ℕ) (call : Call) (reply : Reply) → IsPlan plan → IsWorked plan es left plain → TakesCall left rest b call
    → step plan plain.line b call ≡ record { reply = reply; after = new.line } → new.calls ≡ plain.calls + 1
    → all ≡ es ++ record { box_no = b; call = call; reply = reply } ∷ [] → IsWorked plan all rest new
worked_script plan es all left rest plain new b call reply is h takes told counted all_is =
    let e : Entry = record { box_no = b; call = call; reply = reply } in
    let kept =
    kept_next (shown plan es []) all e plain new reply h.kept
    (script_entry plan es left rest plain new b call reply h takes told) all_is told counted in
    let at = worked_state plan es left plain h in
    let line : new.line ≡ state_of plan all = ap (λ (p : PlainState). p.line) kept.line in
    let fewer = fewer_left left rest b call takes in
    record {
      kept = kept;
      may = subst (λ (s : LineState). AreLeft plan s rest) line
          (left_behind plan plain new.line left rest b call reply (worked_line plan es left plain is h)
          (subst (λ (s : LineState). AreLeft plan s left) (sym at) h.may) takes told);
      few = omega (arith, h.few, fewer, ap length all_is, longer es e);
    }

-- what the boxes do is this entry, and what they do behind it
pub goes_next : (plan : PlanFields) (es all : List Entry) (left rest : List (List Call)) (plain new : PlainState)
    (b : ℕ) (call : Call) (reply : Reply) → IsWorked plan es left plain → TakesCall left rest b call
    → step plan plain.line b call ≡ record { reply = reply; after = new.line }
    → first_free plan (state_of plan es) 0 left ≡ Some b
    → all ≡ es ++ record { box_no = b; call = call; reply = reply } ∷ []
    → gone_on (shown plan all rest) ≡ gone_on (shown plan es left)
goes_next plan es all left rest plain new b call reply h takes told free all_is =
    let state = state_of plan es in
    let told_is = (script_entry plan es left rest plain new b call reply h takes told).told in
    let e : Entry = record { box_no = b; call = call; reply = reply } in
    let others = others_from plan (state_of plan all) rest in
    let grown : (step plan state b call).after ≡ state_of plan all =
    sym (ap (λ (xs : List Entry). state_of plan xs) all_is ∙ state_grows plan es e) in
    let next : others_from plan state left ≡ e ∷ others =
    others_next plan state left b call free takes.taken
    ∙ ap (λ (d : Entry). d ∷ others_from plan (step plan state b call).after (left_then left b)) (sym told_is)
    ∙ ap (λ (s : LineState). e ∷ others_from plan s (left_then left b)) grown
    ∙ ap (λ (l : List (List Call)). e ∷ others_from plan (state_of plan all) l) (sym takes.left) in
    let entries : all ++ others ≡ es ++ others_from plan state left =
    ap (λ (xs : List Entry). xs ++ others) all_is ∙ append_assoc es (e ∷ []) others
    ∙ ap (λ (xs : List Entry). es ++ xs) (sym next) in
    let lefts : left_after rest others ≡ left_after left (others_from plan state left) =
    ap (λ (l : List (List Call)). left_after l others) takes.left
    ∙ ap (λ (xs : List Entry). left_after left xs) (sym next) in
    ap (λ (xs : List Entry). shown plan xs (left_after rest others)) entries
    ∙ ap (λ (l : List (List Call)). shown plan (es ++ others_from plan state left) l) lefts

-- where no box may go on, nothing more is done
pub goes_no_more : (plan : PlanFields) (es : List Entry) (left : List (List Call))
    → first_free plan (state_of plan es) 0 left ≡ None → shown plan es left ≡ gone_on (shown plan es left)
goes_no_more plan es left none =
    let nothing = others_none plan (state_of plan es) left none in
    sym (ap (λ (xs : List Entry). shown plan (es ++ xs) (left_after left xs)) nothing
    ∙ ap (λ (xs : List Entry). shown plan xs left) (append-nil es))

-- ---- a call of a box that no script works

-- none of its calls are left
pub none_here : (left : List (List Call)) (b : ℕ) → nat_lt 0 (length (calls_left left b)) ≡ false
    → calls_left left b ≡ []
none_here left b h =
    let none = ltb-false 0 (length (calls_left left b)) h in nil_from_length (calls_left left b) (omega (arith, none))

-- behind it the line is worked one entry further
pub worked_call : (plan : PlanFields) (es all : List Entry) (left : List (List Call)) (plain new : PlainState)
    (e : Entry) (reply : Reply) → IsWorked plan es left plain → MayFollow (shown plan es left) e
    → step plan plain.line e.box_no e.call ≡ record { reply = reply; after = new.line }
    → new.calls ≡ plain.calls + 1 → all ≡ es ++ e ∷ [] → IsWorked plan all left new
worked_call plan es all left plain new e reply h may told counted all_is =
    let kept = kept_next (shown plan es left) all e plain new reply h.kept may all_is told counted in
    let line : state_of plan all ≡ (step plan (state_of plan es) e.box_no e.call).after =
    ap (λ (xs : List Entry). state_of plan xs) all_is ∙ state_grows plan es e in
    record {
      kept = kept;
      may = subst (λ (s : LineState). AreLeft plan s left) (sym line)
          (left_there plan (state_of plan es) left e.box_no e.call h.may (none_here left e.box_no may.own));
      few = omega (arith, may.room, ap length all_is, longer es e);
    }

-- ---- a service that goes on

-- behind a call, and what the others then do, a service keeps what it has to
pub held_call : (plan : PlanFields) (es all : List Entry) (left rest : List (List Call))
    (plain new earlier : PlainState) (count : ℕ) (e : Entry) → IsHeld plan es left plain earlier count
    → shown plan all rest ≡ gone_on (with_entry (shown plan es left) e) → IsWorked plan all rest new
    → IsHeld plan all rest new earlier count
held_call plan es all left rest plain new earlier count e h gone worked =
    let others = others_of (with_entry (shown plan es left) e) in
    held_on plan es all (e ∷ others) left rest plain new earlier count h
    (ap (λ (s : ServiceFields). s.entries) gone ∙ append_assoc es (e ∷ []) others) worked

-- behind a script that is given, and what the boxes then do, it keeps what it has to
pub held_given : (plan : PlanFields) (es all : List Entry) (left given rest : List (List Call))
    (plain new earlier : PlainState) (count : ℕ) → IsHeld plan es left plain earlier count
    → shown plan all rest ≡ gone_on (shown plan es given) → IsWorked plan all rest new
    → IsHeld plan all rest new earlier count
held_given plan es all left given rest plain new earlier count h gone worked =
    held_on plan es all (others_of (shown plan es given)) left rest plain new earlier count h
    (ap (λ (s : ServiceFields). s.entries) gone) worked
