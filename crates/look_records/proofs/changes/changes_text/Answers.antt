use Rattle.std.proofs.Common.{map}
use Rattle.serde_json.specs.View.{view}
use Rattle.look_records.proofs.Plain.{changes_plain}
use Rattle.look_records.proofs.changes.changes_text.Goals as goal

pub text_of-requires : goal.text_of-requires
text_of-requires c =
    rw c.in_ok-object.ensures
    (changes_plain c.args.plan.now c.args.earlier.now.line c.args.now.now.line c.args.count
    (map view c.in_ok-items.items.items) c.in_ok-items.ensures)

pub returns : goal.returns
returns c = record {
  items = map view c.in_ok-items.items.items;
  each = c.in_ok-items.ensures;
  is = rw c.in_ok-object.ensures at c.in_ok-text.ensures;
}
