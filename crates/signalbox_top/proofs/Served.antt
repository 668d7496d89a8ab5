-- What is taken of a line that is served.
use Rattle.std.proofs.Common.{◌≡◌, ℕ, List, [], Option, IfOk, ap, subst, take}
use Rattle.std.specs.Prelude.{Result}
use Rattle.line_plan.specs.Plans.{PlanFields}
use Rattle.rail_text.proofs.Appended.{appended-none}
use Rattle.hand_working.specs.Works.{Grows}
use Rattle.line_service.specs.Services.{ServiceFields, opening}
use Rattle.line_serving.specs.Transcripts.{IsCutShort, IsServed}
use Rattle.signalbox_top.specs.Serving.{IsServedOn}

-- where lines are served, something is put, or nothing
pub served_grows : (before after : ServiceFields) (given now : Option (List (List ℕ))) (old new : Option (List ℕ))
    → IsServed before after given now old new → Grows old new
served_grows before after given now old new served = (served.are.text, served.are.taken)

-- the same where that is cut short
pub cut_grows : (before after : ServiceFields) (given now : Option (List (List ℕ))) (old new : Option (List ℕ))
    → IsCutShort before after given now old new → Grows old new
cut_grows before after given now old new cut = (take cut.part cut.text, cut.taken)

-- nothing is put
pub nothing_grows : (old : Option (List ℕ)) → Grows old old
nothing_grows old = ([], appended-none old)

-- what is served on the plan of a service that opens on it is served on that plan
pub served_of : {A E : Type 0} (result : Result A E) (service : ServiceFields) (plan : PlanFields)
    (given now : Option (List (List ℕ))) (old new : Option (List ℕ)) → service ≡ opening plan
    → IfOk result (λ _. IsServedOn service.plan given now old new) → IfOk result (λ _. IsServedOn plan given now old new)
served_of result service plan given now old new e served =
    subst (λ (p : PlanFields). IfOk result (λ _. IsServedOn p given now old new))
    (ap (λ (s : ServiceFields). s.plan) e) served
