use Rattle.std.proofs.Common.{List, [], drop, map}
use Rattle.serde_json.specs.Data.{Data}
use Rattle.serde_json.specs.View.{view}
use Rattle.look_records.specs.Changes.{PutsChanges}
use Rattle.look_records.proofs.changes.change_items.Given as goal

abbrev pub invariant-loop-box_no : goal.invariant-loop-box_no
invariant-loop-box_no l =
    (new : List Data)
    → PutsChanges l.plan l.earlier.line l.now.line l.box_no (drop l.box_no l.plan.boxes) (map view l.values.items) new
    → PutsChanges l.plan l.earlier.line l.now.line 0 l.plan.boxes [] new
