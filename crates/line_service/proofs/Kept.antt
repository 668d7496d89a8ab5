-- What a service keeps.
use Rattle.std.proofs.Common.{◌≡◌, ℕ, zero, suc, ◌+◌, ◌<◌, ◌^◌, List, [], ◌∷◌, ◌++◌, Some, length}
use Rattle.std.proofs.Common.{◌≤◌, arith, refl, replicate, sym, ap, subst, ◌∙◌, drop, get_or, take}
use Rattle.std.proofs.lemmas.List.{drop_more, length-append, length-replicate, length-take-le, take-append-drop}
use Rattle.std.proofs.lemmas.List.{take-append-le, take_more}
use Rattle.std.proofs.lemmas.List.Elements.{All-pop}
use Rattle.line_plan.specs.Plans.{IsPlan, PlanFields}
use Rattle.line_law.specs.declared.call.Call.{Call}
use Rattle.line_law.specs.declared.call.Entry.{Entry}
use Rattle.line_law.specs.declared.call.Reply.{Reply}
use Rattle.line_law.specs.History.{IsLegal, opened, state_of}
use Rattle.line_law.specs.Law.{Done, MayCall, step}
use Rattle.line_law.specs.Lines.{IsLineOf, PlainState}
use Rattle.line_law.specs.Serial.{AreCalls, AreLeft, calls_left, count_left}
use Rattle.line_law.specs.States.{LineState, box_at}
use Rattle.line_law.proofs.Histories.{entry_determined, history_grows, state_grows}
use Rattle.line_law.proofs.KeepingLaws.{history_keeps}
use Rattle.line_report.proofs.Histories.{legal_spelled}
use Rattle.script_text.specs.Entries.{IsSpelled}
use Rattle.line_service.specs.Calls.{MayFollow}
use Rattle.line_service.specs.Services.{IsHeld, IsKept, IsWorked, ServiceFields, none_left}

-- a service that begins
pub kept_begins : (plan : PlanFields) (es : List Entry) (plain : PlainState) → es ≡ [] → plain ≡ opened plan
    → IsKept plan es plain
kept_begins plan es plain none is = rw none (record { legal = tt; few = omega arith; line = is })

-- its line is one of the plan
pub kept_line : (plan : PlanFields) (es : List Entry) (plain : PlainState) → IsPlan plan → IsKept plan es plain
    → IsLineOf plan plain
kept_line plan es plain is h = rw h.line (history_keeps plan es is h.legal)

-- its history with an entry more that the law allows
pub legal_next : (service : ServiceFields) (e : Entry) → IsLegal service.plan service.entries → MayFollow service e
    → IsLegal service.plan (service.entries ++ e ∷ [])
legal_next service e legal h =
    subst (λ (last : Entry). IsLegal service.plan (service.entries ++ last ∷ [])) (sym h.told)
    (history_grows service.plan service.entries e.box_no e.call legal h.call)

pub longer : (es : List Entry) (e : Entry) → length (es ++ e ∷ []) ≡ length es + 1
longer es e = length-append es (e ∷ [])

-- an entry that the law allows there can be printed
pub spelled_next : (service : ServiceFields) (e : Entry) → IsPlan service.plan
    → IsLegal service.plan service.entries → MayFollow service e → IsSpelled service.plan e
spelled_next service e is legal h =
    let few : length (service.entries ++ e ∷ []) < 10 ^ 10 = omega (arith, longer service.entries e, h.room) in
    let spelled = legal_spelled service.plan (service.entries ++ e ∷ []) is few (legal_next service e legal h) in
    (All-pop (IsSpelled service.plan) (service.entries ++ e ∷ []) service.entries (Some e) refl spelled).1

-- a call that may be made by the entries may be made on the line
pub may_on_line : (plan : PlanFields) (es : List Entry) (plain : PlainState) (b : ℕ) (call : Call)
    → IsKept plan es plain → MayCall plan (state_of plan es) b call → MayCall plan plain.line b call
may_on_line plan es plain b call h may = rw h.line may

same_line : (plain : PlainState) (line : LineState) (calls : ℕ) → plain.line ≡ line → plain.calls ≡ calls
    → plain ≡ record { line = line; calls = calls }
same_line plain line calls h k = rw (← h, ← k) refl

-- a service keeps what it keeps with an entry more, whose call was performed
pub kept_next : (service : ServiceFields) (all : List Entry) (e : Entry) (plain new : PlainState) (reply : Reply)
    → IsKept service.plan service.entries plain → MayFollow service e → all ≡ service.entries ++ e ∷ []
    → step service.plan plain.line e.box_no e.call ≡ record { reply = reply; after = new.line }
    → new.calls ≡ plain.calls + 1 → IsKept service.plan all new
kept_next service all e plain new reply h next is told counted =
    let line : plain.line ≡ state_of service.plan service.entries = ap (λ (p : PlainState). p.line) h.line in
    let calls : plain.calls ≡ length service.entries = ap (λ (p : PlainState). p.calls) h.line in
    let done : new.line ≡ (step service.plan plain.line e.box_no e.call).after =
    sym (ap (λ (d : Done). d.after) told) in
    let state : new.line ≡ state_of service.plan (service.entries ++ e ∷ []) =
    done ∙ ap (λ (s : LineState). (step service.plan s e.box_no e.call).after) line
    ∙ sym (state_grows service.plan service.entries e) in
    let count : new.calls ≡ length (service.entries ++ e ∷ []) =
    omega (arith, counted, calls, longer service.entries e) in
    rw is
    (record {
      legal = legal_next service e h.legal next;
      few = omega (arith, longer service.entries e, next.room);
      line = same_line new _ _ state count;
    })

-- ---- by what a service shows

abbrev pub shown : PlanFields → List Entry → List (List Call) → ServiceFields
shown plan es left = record { plan = plan; entries = es; left = left }

-- its line is one of the plan that it shows
pub seen_line : (plan : PlanFields) (es : List Entry) (left : List (List Call)) (plain : PlainState)
    (service : ServiceFields) → shown plan es left ≡ service → IsPlan plan → IsKept plan es plain
    → IsLineOf service.plan plain
seen_line plan es left plain service e is h =
    subst (λ (s : ServiceFields). IsLineOf s.plan plain) e (kept_line plan es plain is h)

-- ---- a history that is made again

-- the first so many are that many
pub front_long : (es : List Entry) (n : ℕ) → n ≤ length es → length (take n es) ≡ n
front_long es n le = length-take-le n es le

-- each entry of a legal history is allowed behind those before it
pub follows_next : (plan : PlanFields) (es : List Entry) (at : ℕ) (d : Entry) → IsLegal plan es
    → length es < 2 ^ 32 → at < length es
    → MayFollow (shown plan (take at es) []) (get_or es at d)
follows_next plan es at d legal few lt =
    let split : es ≡ take at es ++ get_or es at d ∷ drop (at + 1) es =
    sym (take-append-drop at es) ∙ ap (λ (rest : List Entry). take at es ++ rest) (drop_more es at d lt) in
    let there = entry_determined plan (take at es) (drop (at + 1) es) (get_or es at d)
    (subst (λ (all : List Entry). IsLegal plan all) split legal) in
    record {
      call = there.0;
      told = there.1;
      own = refl;
      room = omega (arith, front_long es at (omega (arith, lt)), lt, few);
    }

-- the line behind the first entries, with the next one's call performed, is the line behind one more
pub kept_more : (plan : PlanFields) (es : List Entry) (at : ℕ) (d : Entry) (plain new : PlainState) (reply : Reply)
    → IsLegal plan es → length es < 2 ^ 32 → at < length es → IsKept plan (take at es) plain
    → step plan plain.line (get_or es at d).box_no (get_or es at d).call ≡ record { reply = reply; after = new.line }
    → new.calls ≡ plain.calls + 1 → IsKept plan (take (at + 1) es) new
kept_more plan es at d plain new reply legal few lt h told counted =
    kept_next (shown plan (take at es) []) (take (at + 1) es) (get_or es at d) plain new reply h
    (follows_next plan es at d legal few lt) (take_more es at d lt) told counted

-- ---- a service with an earlier line

none_is : (n b : ℕ) → calls_left (replicate n []) b ≡ []
none_is zero b = refl
none_is (suc n) zero = refl
none_is (suc n) (suc b) = none_is n b

-- where no box has a script, no call is left
pub none_count : (n : ℕ) → count_left (replicate n []) ≡ 0
none_count zero = refl
none_count (suc n) = none_count n

-- so what is left may be made in turn
pub none_may : (plan : PlanFields) (state : LineState) → AreLeft plan state (none_left plan)
none_may plan state = record {
  each = length-replicate (length plan.boxes) [];
  calls = λ b.
      subst (λ (calls : List Call). AreCalls plan b (box_at state b).moment calls)
      (sym (none_is (length plan.boxes) b)) tt;
}

-- a line is worked where no box has a script
pub worked_unscripted : (plan : PlanFields) (es : List Entry) (plain : PlainState) → IsKept plan es plain
    → IsWorked plan es (none_left plan) plain
worked_unscripted plan es plain h = record {
  kept = h;
  may = none_may plan (state_of plan es);
  few = omega (arith, h.few, none_count (length plan.boxes));
}

-- a service without scripts that begins, or goes back
pub held_unscripted : (plan : PlanFields) (es : List Entry) (left : List (List Call)) (plain earlier : PlainState)
    → left ≡ none_left plan → IsKept plan es plain → earlier ≡ opened plan → IsHeld plan es left plain earlier 0
held_unscripted plan es left plain earlier none h early = rw none (record {
  worked = worked_unscripted plan es plain h;
  within = omega arith;
  stood = kept_begins plan [] earlier refl early;
})

-- where entries are added and the line is worked as far as these, the earlier line stays as it was
pub held_on : (plan : PlanFields) (es all more : List Entry) (left rest : List (List Call))
    (plain new earlier : PlainState) (count : ℕ) → IsHeld plan es left plain earlier count → all ≡ es ++ more
    → IsWorked plan all rest new → IsHeld plan all rest new earlier count
held_on plan es all more left rest plain new earlier count h is worked = record {
  worked = worked;
  within = omega (arith, h.within, ap length is, length-append es more);
  stood = subst (λ (front : List Entry). IsKept plan front earlier)
      (sym (ap (take count) is ∙ take-append-le count es more h.within)) h.stood;
}
