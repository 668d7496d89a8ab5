use Rattle.std.proofs.Common.{ℕ, ◌+◌, ◌≡◌, List, [], ap, drop, subst, take, ◌∙◌}
use Rattle.std.proofs.Math.Seq.{take-length}
use Rattle.std.proofs.lemmas.Result.{IfOk-weaker}
use Rattle.line_law.specs.declared.call.Entry.{Entry}
use Rattle.line_runs.specs.Copying.{AreCopied}
use Rattle.line_runs.proofs.printing.copy_last.Goals as goal

pub returns : goal.returns
returns c =
    let plan = c.args.plan.now in
    let es = c.args.merged.now in
    let from = c.args.from in
    let all : take c.len-to.result es ≡ es = ap (λ n. take n es) c.len-to.ensures ∙ take-length es in
    IfOk-weaker c.copy_part.result _ _
    (λ copied are. subst (λ (before : List ℕ). AreCopied plan before (from + 1) (drop from es) copied)
    c.new.ensures.items
    (subst (λ (xs : List Entry). AreCopied plan c.new.result.items (from + 1) (drop from xs) copied) all are))
    c.copy_part.ensures
