-- Of a rehearsal all can be told.
use Rattle.std.proofs.Common.{◌≡◌, ℕ, ◌+◌, ◌<◌, ◌^◌, List, [], ◌∷◌, ◌++◌, All, Some, length, refl, sym, ap, ◌∙◌}
use Rattle.std.proofs.Common.{subst, arith}
use Rattle.std.proofs.lemmas.List.{length-append, length_push}
use Rattle.std.proofs.lemmas.List.Elements.{All-pop, All-weaker}
use mathlib.Core.List.{IsPrefix}
use Rattle.line_plan.specs.Plans.{IsPlan, PlanFields}
use Rattle.line_law.specs.declared.call.Call.{Call}
use Rattle.line_law.specs.declared.call.Entry.{Entry}
use Rattle.line_law.specs.History.{IsLegal, entry_of, state_of}
use Rattle.line_law.specs.Law.{MayCall}
use Rattle.line_law.specs.Serial.{calls_left, serial_journal}
use Rattle.line_law.specs.States.{LineState}
use Rattle.line_law.proofs.Histories.{history_grows}
use Rattle.line_rehearsal.specs.Rehearsals.{IsUnderWay}
use Rattle.line_rehearsal.specs.declared.rehearsal.Rehearsal.{Rehearsal}
use Rattle.line_report.proofs.Histories.{legal_spelled}
use Rattle.script_text.specs.Entries.{IsSpelled}
use Rattle.script_text.specs.declared.script.Script.{Script}
use Rattle.serial_working.specs.Rosters.{calls_of_scripts, head_of}
use Rattle.serial_working.proofs.SerialTurns.{entries_few, may_look}
use Rattle.text_fetch.specs.Runs.{AreScriptsOf}
use Rattle.rehearsal_report.specs.Accounts.{IsAccount, left_in}
use Rattle.rehearsal_report.specs.CallLines.{NamedText}

-- a beginning of a rehearsal's order is short
short_beginning : (es all : List Entry) → IsPrefix es all → length es < length all + 1
short_beginning es all h =
    let whole = ap (λ (xs : List Entry). length xs) h.1 in
    omega (arith, whole, length-append es h.0)

-- the entry that would come next can be spelled
next_spelled : (plan : PlanFields) (es : List Entry) (b : ℕ) (call : Call) → IsPlan plan → length es < 2 ^ 33
    → IsLegal plan es → MayCall plan (state_of plan es) b call
    → IsSpelled plan (entry_of plan (state_of plan es) b call)
next_spelled plan es b call is few legal may =
    let e = entry_of plan (state_of plan es) b call in
    let longer = length_push es e in
    let all = legal_spelled plan (es ++ e ∷ []) is (omega (arith, longer)) (history_grows plan es b call legal may) in
    (All-pop (IsSpelled plan) (es ++ e ∷ []) es (Some e) refl all).1

-- of a rehearsal of a plan's line, with a text for each script, all can be told
pub account_made : (plan : PlanFields) (scripts : List Script) (texts given : List NamedText) (rehearsal : Rehearsal)
    → IsPlan plan → AreScriptsOf plan scripts
    → IsUnderWay plan scripts rehearsal.made.items rehearsal.line
    → rehearsal.line.line ≡ state_of plan rehearsal.journal.entries → IsLegal plan rehearsal.journal.entries
    → IsPrefix rehearsal.journal.entries (serial_journal plan (calls_of_scripts scripts))
    → length texts ≡ length scripts → given ≡ texts → IsAccount plan scripts given rehearsal
account_made plan scripts texts given rehearsal is own way state legal begins each same =
    let es = rehearsal.journal.entries in
    let short = short_beginning es (serial_journal plan (calls_of_scripts scripts)) begins in
    let few = entries_few plan scripts is own in
    let next : (b : ℕ) (call : Call) → head_of (calls_left (left_in scripts rehearsal) b) ≡ Some call
    → IsSpelled plan (entry_of plan rehearsal.line.line b call) =
    λ b call head.
    let may : MayCall plan rehearsal.line.line b call =
    may_look plan rehearsal.line.line (left_in scripts rehearsal) b call way.left (sym head) in
    subst (λ (s : LineState). IsSpelled plan (entry_of plan s b call)) (sym state)
    (next_spelled plan es b call is (omega (arith, short, few)) legal
    (subst (λ (s : LineState). MayCall plan s b call) state may)) in
    record {
      way = way;
      each = ap (λ (xs : List NamedText). length xs) same ∙ each;
      spelled = legal_spelled plan es is (omega (arith, short, few)) legal;
      next = next;
    }

-- each entry is of a box of the plan
pub entries_small : (plan : PlanFields) (es given : List Entry) (boxes : ℕ) → All (IsSpelled plan) es → given ≡ es
    → boxes ≡ length plan.boxes → All (λ e. e.box_no < boxes) given
entries_small plan es given boxes h is many =
    subst (λ (xs : List Entry). All (λ e. e.box_no < boxes) xs) (sym is)
    (All-weaker (IsSpelled plan) (λ (e : Entry). e.box_no < boxes)
    (λ e k. let below = k.box in omega (arith, many, below)) es h)
