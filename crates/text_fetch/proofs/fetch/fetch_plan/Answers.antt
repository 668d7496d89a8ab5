use Rattle.line_plan.specs.Limits.{most_bytes}
use Rattle.plan_draft.specs.Reading.{plan_of}
use Rattle.plan_text.proofs.SpelledPlans.{plan_of-take}
use Rattle.text_fetch.proofs.Fetched.{fetched_given, fetched_stops}
use Rattle.text_fetch.proofs.fetch.fetch_plan.Goals as goal

pub returns-in-Ok-clause-plan : goal.returns-in-Ok-clause-plan
returns-in-Ok-clause-plan g c =
    fetched_given 1 most_bytes plan_of (g.S.Shelf.held c.args.shelf.now c.args.name.now) c.in_ok-bytes.bytes.items
    c.in-Ok.plan plan_of-take c.in_ok-bytes.ensures.bytes (rw c.deref.ensures.value at c.in-Ok.ensures.exact)

pub returns-clause-plan : goal.returns-clause-plan
returns-clause-plan g c =
    fetched_stops 1 most_bytes plan_of (g.S.Shelf.held c.args.shelf.now c.args.name.now) c.in_ok-bytes.bytes.items
    c.in-Err.error c.stop_of.result plan_of-take c.in_ok-bytes.ensures.bytes
    (rw c.deref.ensures.value at c.in-Err.ensures.exact) c.stop_of.ensures
