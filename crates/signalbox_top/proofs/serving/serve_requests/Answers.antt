use Rattle.signalbox_top.proofs.Grown.{front_of}
use Rattle.signalbox_top.proofs.serving.serve_requests.Goals as goal

pub returns-in-Err-clause-part : goal.returns-in-Err-clause-part
returns-in-Err-clause-part g c = λ failed. front_of _ _ c.served.ensures.grows
