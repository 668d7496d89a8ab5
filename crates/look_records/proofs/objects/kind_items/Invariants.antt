use Rattle.std.proofs.Common.{◌≡◌, ◌++◌, drop, map}
use Rattle.serde_json.specs.View.{view}
use Rattle.look_records.specs.Objects.{kind_items}
use Rattle.look_records.proofs.objects.kind_items.Given as goal

abbrev pub invariant-loop-thing : goal.invariant-loop-thing
invariant-loop-thing l =
    map view l.items.items ++ kind_items l.plan l.box_no l.kind (drop l.thing-index l.things)
    ≡ kind_items l.plan l.box_no l.kind l.things
