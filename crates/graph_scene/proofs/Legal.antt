-- The entries of a legal journal are of the boxes of its line, at moments of a day.
use Rattle.std.proofs.Common.{List, [], ◌∷◌}
use Rattle.std.proofs.lemmas.List.Elements.{All-cons, All-nil}
use Rattle.line_law.specs.declared.call.Entry.{Entry}
use Rattle.line_law.specs.History.{IsLegal, IsLegalFrom, after_entry}
use Rattle.line_law.specs.States.{LineState, opening_state}
use Rattle.line_law.proofs.Sides.{known_parts}
use Rattle.line_plan.specs.Plans.{PlanFields}
use Rattle.graph_scene.specs.Moments.{AreOf, IsOf}

legal_from : (plan : PlanFields) (state : LineState) (es : List Entry) → IsLegalFrom plan state es → AreOf plan es
legal_from plan state [] legal = All-nil (IsOf plan)
legal_from plan state (e ∷ es) legal =
    let parts = known_parts plan e.box_no e.call legal.0.known in
    All-cons (IsOf plan) e es (parts.box, parts.moment) (legal_from plan (after_entry plan state e) es legal.2)

pub legal_of : (plan : PlanFields) (es : List Entry) → IsLegal plan es → AreOf plan es
legal_of plan es legal = legal_from plan (opening_state plan) es legal
