use Rattle.std.proofs.Common.{arith, map}
use Rattle.serde_json.specs.View.{view}
use Rattle.line_service.proofs.Listed.{behind_spelled, entries_plain}
use Rattle.line_service.proofs.lists.journal_text.Goals as goal

pub entry_items-requires-clause-spelled : goal.entry_items-requires-clause-spelled
entry_items-requires-clause-spelled c =
    rw (c.entries_behind-behind.ensures, c.plan.ensures)
    (behind_spelled _ _ _
    (c.histories_can_be_printed.ensures _ _ c.meets_conditions.ensures.plan
    (omega (arith, c.meets_conditions.ensures.few)) c.meets_conditions.ensures.legal))

pub list_text-requires : goal.list_text-requires
list_text-requires c =
    entries_plain c.plan.result.now c.args.before c.entries_behind-behind.result.now _
    (map view c.in_ok-items.items.items) c.in_ok-items.ensures

pub returns : goal.returns
returns c = record {
  items = map view c.in_ok-items.items.items;
  each = rw c.plan.ensures at (rw c.entries_behind-behind.ensures at c.in_ok-items.ensures);
  is = c.in_ok-text.ensures;
}
