use Rattle.std.proofs.Common.{map}
use Rattle.serde_json.specs.View.{view}
use Rattle.line_service.proofs.Listed.{moves_plain}
use Rattle.line_service.proofs.lists.moves_text.Goals as goal

pub list_text-requires : goal.list_text-requires
list_text-requires c =
    moves_plain c.args.service.now c.args.here c.levers_of-levers.result.now _ (map view c.in_ok-items.items.items)
    c.in_ok-items.ensures

pub returns : goal.returns
returns c = record {
  items = map view c.in_ok-items.items.items;
  each = rw c.levers_of-levers.ensures at c.in_ok-items.ensures;
  is = c.in_ok-text.ensures;
}
