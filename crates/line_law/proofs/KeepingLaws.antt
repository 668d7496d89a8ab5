-- Every legal history ends in a line of its plan.
use Rattle.std.proofs.Common.{◌≡◌, ℕ, ◌+◌, List, [], ◌∷◌, length, subst, arith}
use Rattle.line_plan.specs.Plans.{IsPlan, PlanFields}
use Rattle.line_law.specs.declared.call.Entry.{Entry}
use Rattle.line_law.specs.History.{IsLegal, IsLegalFrom, after_entry, state_after, state_of}
use Rattle.line_law.specs.Lines.{IsLineOf}
use Rattle.line_law.specs.States.{LineState, opening_state}
use Rattle.line_law.proofs.Keeping.{stays}
use Rattle.line_law.proofs.Opens.{opens}

-- a line from a state on
keeps_from : (plan : PlanFields) (state : LineState) (n : ℕ) (es : List Entry) → IsPlan plan
    → IsLineOf plan (record { line = state; calls = n }) → IsLegalFrom plan state es
    → IsLineOf plan (record { line = state_after plan state es; calls = n + length es })
keeps_from plan state n [] is line legal =
    subst (λ (k : ℕ). IsLineOf plan (record { line = state; calls = k })) (omega arith) line
keeps_from plan state n (e ∷ es) is line legal =
    let same : n + 1 + length es ≡ n + length (e ∷ es) = omega arith in
    let next = stays plan (record { line = state; calls = n }) e.box_no e.call is line legal.0.known in
    subst (λ (k : ℕ). IsLineOf plan (record { line = state_after plan (after_entry plan state e) es; calls = k })) same
    (keeps_from plan (after_entry plan state e) (n + 1) es is next legal.2)

-- every legal history leads to a line of its plan
pub history_keeps : (plan : PlanFields) (es : List Entry) → IsPlan plan → IsLegal plan es
    → IsLineOf plan (record { line = state_of plan es; calls = length es })
history_keeps plan es is h =
    let same : 0 + length es ≡ length es = omega arith in
    subst (λ (k : ℕ). IsLineOf plan (record { line = state_of plan es; calls = k })) same
    (keeps_from plan (opening_state plan) 0 es is (opens plan) h)
