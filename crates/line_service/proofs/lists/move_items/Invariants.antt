use Rattle.std.proofs.Common.{List, [], drop, map}
use Rattle.serde_json.specs.Data.{Data}
use Rattle.serde_json.specs.View.{view}
use Rattle.line_service.specs.Lists.{IsMoveData, PutsEach}
use Rattle.line_service.proofs.lists.move_items.Given as goal

abbrev pub invariant-loop-lever : goal.invariant-loop-lever
invariant-loop-lever l =
    (new : List Data)
    → PutsEach (λ at lever d. IsMoveData l.service l.here lever d) l.lever-index (drop l.lever-index l.levers)
    (map view l.items.items) new
    → PutsEach (λ at lever d. IsMoveData l.service l.here lever d) 0 l.levers [] new
