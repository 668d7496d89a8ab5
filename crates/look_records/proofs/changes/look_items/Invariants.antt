use Rattle.std.proofs.Common.{◌≡◌, ◌++◌, drop, map}
use Rattle.serde_json.specs.View.{view}
use Rattle.look_records.specs.Changes.{looks_from}
use Rattle.look_records.proofs.changes.look_items.Given as goal

abbrev pub invariant-loop-box_no : goal.invariant-loop-box_no
invariant-loop-box_no l =
    map view l.values.items ++ looks_from l.plan l.line.line l.box_no (drop l.box_no l.plan.boxes)
    ≡ looks_from l.plan l.line.line 0 l.plan.boxes
