-- The sections of a line, pair by pair.
use Rattle.std.proofs.Common.{◌≡◌, ℕ, suc, ◌+◌, ◌-◌, ◌<◌, List, ◌++◌, sym, ap, ◌∙◌, arith, append_assoc}
use Rattle.std.specs.List.{flat_map}
use Rattle.block_words.specs.declared.Way.TheVariants.{Up, Down}
use Rattle.line_plan.specs.Plans.{PlanFields}
use Rattle.plan_check.specs.declared.finding.Finding.{Finding}
use Rattle.line_plan.specs.Sections.{sections_from}
use Rattle.plan_check.specs.Found.{pair_findings, section_findings}

-- the pairs from the first on
pub pair_first : (plan : PlanFields) (b n : ℕ) → b < n
    → flat_map (section_findings plan) (sections_from b (n - b))
    ≡ pair_findings plan b ++ flat_map (section_findings plan) (sections_from (b + 1) (n - (b + 1)))
pair_first plan b n lt =
    let more : n - b ≡ suc (n - (b + 1)) = omega arith in
    ap (λ (k : ℕ). flat_map (section_findings plan) (sections_from b k)) more
    ∙ sym (append_assoc (section_findings plan (record { rear = b; way = Down }))
    (section_findings plan (record { rear = b + 1; way = Up }))
    (flat_map (section_findings plan) (sections_from (b + 1) (n - (b + 1)))))

-- one pair more behind these findings
pub pair_more : (plan : PlanFields) (b n : ℕ) (old new all : List Finding) → b < n → new ≡ old ++ pair_findings plan b
    → old ++ flat_map (section_findings plan) (sections_from b (n - b)) ≡ all
    → new ++ flat_map (section_findings plan) (sections_from (b + 1) (n - (b + 1))) ≡ all
pair_more plan b n old new all lt e h =
    ap (λ (xs : List Finding). xs ++ flat_map (section_findings plan) (sections_from (b + 1) (n - (b + 1)))) e
    ∙ append_assoc old (pair_findings plan b) (flat_map (section_findings plan) (sections_from (b + 1) (n - (b + 1))))
    ∙ ap (λ (xs : List Finding). old ++ xs) (sym (pair_first plan b n lt))
    ∙ h
