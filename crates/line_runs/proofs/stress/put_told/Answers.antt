use Rattle.std.proofs.Common.{◌++◌, ◌∙◌, ℕ, List, ap, string_bytes, subst, sym}
use Rattle.std.proofs.lemmas.Result.{on_ok_weaker}
use Rattle.line_law.specs.declared.ways.ByWay.{ByWay}
use Rattle.line_report.specs.declared.sections.HeldTrains.{HeldTrains}
use Rattle.line_runs.specs.Counting.{AreCounts}
use Rattle.line_runs.specs.Made.{counts_text}
use Rattle.line_runs.proofs.Counted.{summary_told}
use Rattle.line_runs.proofs.stress.put_told.Goals as goal

pub returns : goal.returns
returns c es counted calls =
    let plan = c.args.plan.now in
    let refused = c.args.counts.now.refused in
    let old = string_bytes c.args.out.now in
    let are : AreCounts plan es refused c.deref.result.now =
    subst (λ (trains : List (ByWay HeldTrains)). AreCounts plan es refused trains) (sym c.deref.ensures.value)
    counted in
    let put =
    c.in_ok-put_counts.ensures ∙ ap (λ (n : ℕ). old ++ counts_text c.args.trains plan n refused) calls in
    on_ok_weaker c.put_sections.result (summary_told c.args.trains plan es refused c.deref.result.now old _ _ are put)
    c.put_sections.ensures.put
