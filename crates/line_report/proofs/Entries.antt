-- One more line of a journal.
use Rattle.std.proofs.Common.{◌≡◌, ℕ, ◌+◌, ◌<◌, List, [], ◌∷◌, ◌++◌, length, take, get_or, refl, sym, ap, ◌∙◌}
use Rattle.std.proofs.Common.{append_assoc, arith}
use Rattle.std.proofs.lemmas.List.{append-nil, take_more, length-take}
use Rattle.line_plan.specs.Plans.{PlanFields}
use Rattle.line_law.specs.declared.call.Entry.{Entry}
use Rattle.line_report.specs.Journals.{entry_text, entries_text}

-- the lines of entries and more entries are those of the first, and then those of the others
pub entries_text-append : (plan : PlanFields) (number : ℕ) (es fs : List Entry)
    → entries_text plan number (es ++ fs) ≡ entries_text plan number es ++ entries_text plan (number + length es) fs
entries_text-append plan number [] fs = ap (λ (n : ℕ). entries_text plan n fs) (omega arith)
entries_text-append plan number (e ∷ es) fs =
    let moved : (number + 1) + length es ≡ number + length (e ∷ es) = omega arith in
    ap (λ (t : List ℕ). entry_text plan number e ++ t) (entries_text-append plan (number + 1) es fs)
    ∙ sym (append_assoc (entry_text plan number e) (entries_text plan (number + 1) es)
    (entries_text plan ((number + 1) + length es) fs))
    ∙ ap (λ (n : ℕ). (entry_text plan number e ++ entries_text plan (number + 1) es) ++ entries_text plan n fs) moved

pub entries_text-next : (plan : PlanFields) (number : ℕ) (es : List Entry) (i : ℕ) (d : Entry) → i < length es
    → entries_text plan number (take (i + 1) es)
    ≡ entries_text plan number (take i es) ++ entry_text plan (number + i) (get_or es i d)
entries_text-next plan number es i d lt =
    let counted : number + length (take i es) ≡ number + i = omega (arith, length-take i es) in
    rw (take_more es i d lt, entries_text-append) (rw (counted, append-nil) refl)

-- behind the lines of some entries the next one's line is put
pub more_entries : (plan : PlanFields) (number : ℕ) (es : List Entry) (i : ℕ) (d : Entry) (old out new : List ℕ)
    → i < length es → out ≡ old ++ entries_text plan number (take i es)
    → new ≡ out ++ entry_text plan (number + i) (get_or es i d)
    → new ≡ old ++ entries_text plan number (take (i + 1) es)
more_entries plan number es i d old out new lt before more =
    more
    ∙ ap (λ (t : List ℕ). t ++ entry_text plan (number + i) (get_or es i d)) before
    ∙ append_assoc old (entries_text plan number (take i es)) (entry_text plan (number + i) (get_or es i d))
    ∙ ap (λ (t : List ℕ). old ++ t) (sym (entries_text-next plan number es i d lt))
