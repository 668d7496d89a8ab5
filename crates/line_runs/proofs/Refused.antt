-- The refused entries of two parts of a journal.
use Rattle.std.proofs.Common.{◌≡◌, ℕ, ◌+◌, List, [], ◌∷◌, ◌++◌, length, sym, ap, ◌∙◌, append_assoc, arith}
use Rattle.line_plan.specs.Plans.{PlanFields}
use Rattle.line_law.specs.declared.call.Entry.{Entry}
use Rattle.line_report.specs.Refusals.{refused_entries, refused_entry}

-- the refused entries of two parts of a journal are those of the first, and then those of the second, numbered on
pub refused_entries-append : (plan : PlanFields) (number : ℕ) (es fs : List Entry)
    → refused_entries plan number (es ++ fs)
    ≡ refused_entries plan number es ++ refused_entries plan (number + length es) fs
refused_entries-append plan number [] fs = ap (λ (n : ℕ). refused_entries plan n fs) (omega arith)
refused_entries-append plan number (e ∷ es) fs =
    let moved : (number + 1) + length es ≡ number + length (e ∷ es) = omega arith in
    ap (λ (t : List ℕ). refused_entry plan number e ++ t) (refused_entries-append plan (number + 1) es fs)
    ∙ sym (append_assoc (refused_entry plan number e) (refused_entries plan (number + 1) es)
    (refused_entries plan ((number + 1) + length es) fs))
    ∙ ap (λ (n : ℕ). (refused_entry plan number e ++ refused_entries plan (number + 1) es) ++ refused_entries plan n fs)
    moved
