use Rattle.std.proofs.Common.{◌≡◌, ◌++◌, drop, string_bytes, codes}
use Rattle.std.specs.List.{flat_map}
use Rattle.locking_table.specs.Printing.{cond_words}
use Rattle.locking_table.specs.Words.{spaced}
use Rattle.locking_table.proofs.printing.put_more.Given as goal

abbrev pub invariant-loop-cond : goal.invariant-loop-cond
invariant-loop-cond l =
    string_bytes l.out ++ spaced (flat_map (cond_words (codes "and")) (drop l.cond-index l.conds))
    ≡ string_bytes l.initial.out ++ spaced (flat_map (cond_words (codes "and")) l.conds)
