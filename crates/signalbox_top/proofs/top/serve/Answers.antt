use Rattle.signalbox_top.proofs.top.serve.Goals as goal

pub returns-in-Rehearse-clause-fault : goal.returns-in-Rehearse-clause-fault
returns-in-Rehearse-clause-fault g c failed =
    rw c.in-Rehearse.is (rw c.deref-in-Rehearse.ensures.value at c.serve_rehearse-status.ensures.fault failed)
