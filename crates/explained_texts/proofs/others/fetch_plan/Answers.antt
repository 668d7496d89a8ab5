use Rattle.std.proofs.Common.{◌+◌}
use Rattle.std.proofs.lemmas.Result.{IfErr-weaker}
use Rattle.line_plan.specs.Limits.{most_bytes}
use Rattle.explained_texts.proofs.ByName.{by_name}
use Rattle.explained_texts.proofs.Stopped.{explained_at, front}
use Rattle.explained_texts.proofs.others.fetch_plan.Goals as goal

pub returns-clause-explained : goal.returns-clause-explained
returns-clause-explained g c =
    let held = g.S.Shelf.held c.args.shelf.now in
    let bytes = c.in_ok-bytes.bytes.items in
    let here = front (held c.args.name.now) (most_bytes + 1) bytes c.in_ok-bytes.ensures.bytes in
    IfErr-weaker c.read_plan_text-plan.result _ _
    (λ trouble h. by_name held 1 c.args.name.now trouble
    (explained_at held 1 c.args.name.now bytes trouble here (rw c.deref.ensures.value at h)))
    c.read_plan_text-plan.ensures.explained
