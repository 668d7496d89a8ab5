-- One more line of a register.
use Rattle.std.proofs.Common.{◌≡◌, ℕ, ◌+◌, ◌<◌, List, [], ◌∷◌, ◌++◌, length, take, get_or, refl, sym, ap, ◌∙◌}
use Rattle.std.proofs.Common.{append_assoc, arith}
use Rattle.std.proofs.lemmas.List.{append-nil, take_more, length-take}
use Rattle.line_plan.specs.Plans.{PlanFields}
use Rattle.line_law.specs.declared.call.Entry.{Entry}
use Rattle.train_register.specs.Registers.{told_line, told_lines}

told_lines-append : (plan : PlanFields) (number : ℕ) (es fs : List Entry)
    → told_lines plan number (es ++ fs) ≡ told_lines plan number es ++ told_lines plan (number + length es) fs
told_lines-append plan number [] fs = ap (λ (n : ℕ). told_lines plan n fs) (omega arith)
told_lines-append plan number (e ∷ es) fs =
    let moved : (number + 1) + length es ≡ number + length (e ∷ es) = omega arith in
    ap (λ (t : List ℕ). told_line plan number e ++ t) (told_lines-append plan (number + 1) es fs)
    ∙ sym (append_assoc (told_line plan number e) (told_lines plan (number + 1) es)
    (told_lines plan ((number + 1) + length es) fs))
    ∙ ap (λ (n : ℕ). (told_line plan number e ++ told_lines plan (number + 1) es) ++ told_lines plan n fs) moved

told_lines-next : (plan : PlanFields) (es : List Entry) (i : ℕ) (d : Entry) → i < length es
    → told_lines plan 1 (take (i + 1) es) ≡ told_lines plan 1 (take i es) ++ told_line plan (i + 1) (get_or es i d)
told_lines-next plan es i d lt =
    let counted : 1 + length (take i es) ≡ i + 1 = omega (arith, length-take i es) in
    rw (take_more es i d lt, told_lines-append) (rw (counted, append-nil) refl)

-- a text that has the lines of the first i entries, and then the line of the next
pub more_lines : (plan : PlanFields) (es : List Entry) (i : ℕ) (d : Entry) (old out new : List ℕ) → i < length es
    → out ≡ old ++ told_lines plan 1 (take i es) → new ≡ out ++ told_line plan (i + 1) (get_or es i d)
    → new ≡ old ++ told_lines plan 1 (take (i + 1) es)
more_lines plan es i d old out new lt before more =
    more
    ∙ ap (λ (t : List ℕ). t ++ told_line plan (i + 1) (get_or es i d)) before
    ∙ append_assoc old (told_lines plan 1 (take i es)) (told_line plan (i + 1) (get_or es i d))
    ∙ ap (λ (t : List ℕ). old ++ t) (sym (told_lines-next plan es i d lt))
