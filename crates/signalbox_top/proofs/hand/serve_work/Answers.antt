use Rattle.signalbox_top.proofs.Grown.{front_of, why_behind}
use Rattle.signalbox_top.proofs.hand.serve_work.Goals as goal

pub returns-in-Err-clause-part : goal.returns-in-Err-clause-part
returns-in-Err-clause-part g c = λ failed. front_of _ _ c.worked.ensures.grows

pub returns-in-Err-clause-why : goal.returns-in-Err-clause-why
returns-in-Err-clause-why g c =
    λ failed. why_behind _ (g.L.Sink.taken c.worked.new.told) _ _ (g.L.Sink.faults c.worked.new.told) _
    c.worked.ensures.told c.worked.ensures.later c.tell_trouble.ensures.why
