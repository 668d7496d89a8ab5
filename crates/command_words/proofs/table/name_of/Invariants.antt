use Rattle.std.proofs.Common.{◌≡◌, bytes_eq, drop}
use Rattle.std.specs.List.{find}
use Rattle.command_words.specs.Commands.{all_names, name_of, row_of}
use Rattle.command_words.proofs.table.name_of.Given as goal

abbrev pub invariant-loop-name : goal.invariant-loop-name
invariant-loop-name l =
    find (λ name. bytes_eq l.word (row_of name).word) (drop l.name-index all_names) ≡ name_of l.word
