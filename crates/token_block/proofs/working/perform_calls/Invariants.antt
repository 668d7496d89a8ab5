use Rattle.std.proofs.Common.{◌≡◌, take}
use Rattle.token_law.specs.History.{told_from}
use Rattle.token_law.specs.States.{opening_tokens}
use Rattle.token_block.specs.Working.{AreTogether}
use Rattle.token_block.proofs.working.perform_calls.Given as goal

abbrev pub invariant-loop-call : goal.invariant-loop-call
invariant-loop-call l = record {
  entries : l.entries.items ≡ told_from (opening_tokens l.line.table.shared.key.at_0 l.line.table.shared.key.at_1)
      (take l.call-index l.calls);
  together : AreTogether l.line.table.shared.table_id l.line.table.shared.key l.entries.items l.one l.other;
}
