-- The lines of entries, one behind the other.
use Rattle.std.proofs.Common.{◌≡◌, ℕ, ◌+◌, ◌<◌, List, length, drop, get_or, sym, subst, arith}
use Rattle.std.proofs.lemmas.List.{drop_more}
use Rattle.line_plan.specs.Plans.{PlanFields}
use Rattle.line_law.specs.declared.call.Entry.{Entry}
use Rattle.journal_records.specs.Objects.{PutsEntries, PutsEntry}

-- the line of an entry, and those behind it, are the lines from its place on
pub puts_here : (plan : PlanFields) (first : ℕ) (es : List Entry) (at : ℕ) (d : Entry) (old middle new : List ℕ)
    → at < length es → PutsEntry plan (first + at) (get_or es at d) old middle
    → PutsEntries plan (first + (at + 1)) (drop (at + 1) es) middle new
    → PutsEntries plan (first + at) (drop at es) old new
puts_here plan first es at d old middle new lt put more =
    let next : first + (at + 1) ≡ (first + at) + 1 = omega arith in
    let rest = subst (λ (n : ℕ). PutsEntries plan n (drop (at + 1) es) middle new) next more in
    subst (λ (xs : List Entry). PutsEntries plan (first + at) xs old new) (sym (drop_more es at d lt))
    (middle, put, rest)
