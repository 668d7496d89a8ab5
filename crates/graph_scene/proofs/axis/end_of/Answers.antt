use Rattle.std.proofs.Common.{◌≡◌, ◌<◌, ℕ, ap, subst, sym}
use Rattle.line_law.specs.Known.{moments_of}
use Rattle.line_plan.specs.Plans.{PlanFields}
use Rattle.graph_scene.proofs.Days.{latest_of}
use Rattle.graph_scene.proofs.axis.end_of.Goals as goal

pub full_after-requires : goal.full_after-requires
full_after-requires c =
    let version : c.plan.inside.version ≡ c.args.plan.now.version =
    ap (λ (plan : PlanFields). plan.version) c.plan.view_is in
    subst (λ (v : ℕ). c.latest.result < moments_of v) (sym version)
    (subst (λ (x : ℕ). x < moments_of c.args.plan.now.version) (sym c.latest.ensures)
    (latest_of c.args.plan.now c.args.entries.now c.requires))
