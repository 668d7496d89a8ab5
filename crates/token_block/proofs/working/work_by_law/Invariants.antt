use Rattle.std.proofs.Common.{◌≡◌, take}
use Rattle.token_law.specs.History.{told_from, token_state_of}
use Rattle.token_law.specs.States.{opening_tokens}
use Rattle.token_block.proofs.working.work_by_law.Given as goal

abbrev pub invariant-loop-call : goal.invariant-loop-call
invariant-loop-call l = record {
  entries : l.entries.items ≡ told_from (opening_tokens l.at_0 l.at_1) (take l.call-index l.calls);
  line : l.line ≡ token_state_of l.at_0 l.at_1 l.entries.items;
}
