use Rattle.std.proofs.Common.{◌≡◌, ◌+◌, ◌++◌, drop, string_bytes}
use Rattle.token_text.specs.Outputs.{token_entry_lines}
use Rattle.token_text.proofs.printing.put_entries.Given as goal

abbrev pub invariant-loop-place : goal.invariant-loop-place
invariant-loop-place l = string_bytes l.out ++ token_entry_lines (l.place + 1) (drop l.place l.entries)
    ≡ string_bytes l.fn.out ++ token_entry_lines 1 l.entries
