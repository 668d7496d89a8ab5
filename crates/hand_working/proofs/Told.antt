-- All that was told in a session can be printed.
use Rattle.std.proofs.Common.{◌≡◌, ℕ, ◌<◌, ◌^◌, Bool, true, false, cond, List, [], ◌∷◌, ◌++◌, All, Some}
use Rattle.std.proofs.Common.{length, ◌==◌, arith, subst, sym, refl}
use Rattle.std.proofs.lemmas.List.{length_push}
use Rattle.std.proofs.lemmas.List.Elements.{All-cons, All-head, All-nil, All-pop, All-tail}
use Rattle.line_plan.specs.Plans.{IsPlan, PlanFields}
use Rattle.line_law.specs.declared.call.Call.{Call}
use Rattle.line_law.specs.declared.call.Entry.{Entry}
use Rattle.line_law.specs.History.{IsLegal, entry_of, part_of, state_of}
use Rattle.line_law.specs.Law.{MayCall}
use Rattle.line_law.proofs.Histories.{history_grows}
use Rattle.line_report.proofs.Histories.{legal_spelled}
use Rattle.script_text.specs.Entries.{IsSpelled}

-- the entries of a legal journal can be printed
pub journal_spelled : (plan : PlanFields) (es : List Entry) → IsPlan plan → length es < 2 ^ 32 → IsLegal plan es
    → All (IsSpelled plan) es
journal_spelled plan es is short legal = legal_spelled plan es is (omega (arith, short)) legal

-- so can the entry that comes next
pub next_spelled : (plan : PlanFields) (es : List Entry) (b : ℕ) (call : Call) → IsPlan plan → length es < 2 ^ 32
    → IsLegal plan es → MayCall plan (state_of plan es) b call
    → IsSpelled plan (entry_of plan (state_of plan es) b call)
next_spelled plan es b call is short legal may =
    let e = entry_of plan (state_of plan es) b call in
    let longer = length_push es e in
    let all =
    legal_spelled plan (es ++ e ∷ []) is (omega (arith, longer, short)) (history_grows plan es b call legal may)
    in
    (All-pop (IsSpelled plan) (es ++ e ∷ []) es (Some e) refl all).1

some_of : (P : Entry → Type 0) (t : Bool) (e : Entry) (rest : List Entry) → P e → All P rest
    → All P (cond t (e ∷ rest) rest)
some_of P true e rest h k = All-cons P e rest h k
some_of P false e rest h k = k

-- the entries of one box, of entries that can be printed, can be printed
part_spelled : (plan : PlanFields) (b : ℕ) (es : List Entry) → All (IsSpelled plan) es
    → All (IsSpelled plan) (part_of b es)
part_spelled plan b [] h = All-nil (IsSpelled plan)
part_spelled plan b (e ∷ es) h =
    some_of (IsSpelled plan) (e.box_no == b) e (part_of b es) (All-head (IsSpelled plan) e es h)
    (part_spelled plan b es (All-tail (IsSpelled plan) e es h))

-- and so can these, if they are the entries of one box
pub spelled_in : (plan : PlanFields) (b : ℕ) (es part : List Entry) → part ≡ part_of b es → All (IsSpelled plan) es
    → All (IsSpelled plan) part
spelled_in plan b es part same h =
    subst (λ (xs : List Entry). All (IsSpelled plan) xs) (sym same) (part_spelled plan b es h)
