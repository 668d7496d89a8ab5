use Rattle.std.proofs.lemmas.Result.{IfOk-weaker}
use Rattle.text_fetch.proofs.gather.read_each.Goals as goal

pub returns-clause-each : goal.returns-clause-each
returns-clause-each g c =
    IfOk-weaker c.map_indices.result _ _ (λ read each b d r lt. (each b r lt).1.met d) c.map_indices.ensures.each
