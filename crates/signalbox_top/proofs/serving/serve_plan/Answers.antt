use Rattle.signalbox_top.proofs.Served.{served_of}
use Rattle.signalbox_top.proofs.serving.serve_plan.Goals as goal

-- src/serving.rt:48:1
pub returns-clause-served : goal.returns-clause-served
returns-clause-served g c =
    served_of c.serve_opening.result c.in_ok-service.service c.args.plan _ _ _ _ c.in_ok-service.ensures
    c.serve_opening.ensures.served
