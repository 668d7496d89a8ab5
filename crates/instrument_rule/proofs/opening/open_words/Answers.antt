use Rattle.std.proofs.Common.{◌≡◌, ◌+◌, ◌-◌, ◌*◌, List, [], ℕ, length, replicate, ap, sym, ◌∙◌, subst}
use Rattle.atomic_table.specs.Table.{opening}
use Rattle.line_plan.specs.Plans.{PlanFields}
use Rattle.instrument_rule.specs.Rule.{Kept}
use Rattle.instrument_rule.specs.Views.{first_view}
use Rattle.instrument_rule.proofs.Keeps.{blank, opens}
use Rattle.instrument_rule.proofs.opening.open_words.Goals as goal

abbrev all_zero : ℕ → List ℕ
all_zero n = replicate n 0

pub of_words-requires : goal.of_words-requires
of_words-requires c =
    let plan = c.args.plan.now in
    let boxes : length c.plan.inside.boxes ≡ length plan.boxes = ap
    (λ (p : PlanFields). length p.boxes) c.plan.view_is in
    let same : blank plan ≡ c.as_slice.result.now =
    sym (c.as_slice.ensures.value ∙
    (c.in_ok-words.ensures ∙ ap (λ (n : ℕ). all_zero (1 + n + 6 * (n - 1))) (c.len-boxes.ensures ∙ boxes))) in
    subst (λ (ws : List ℕ). Kept plan (opening ws [] (first_view plan))) same (opens plan)
