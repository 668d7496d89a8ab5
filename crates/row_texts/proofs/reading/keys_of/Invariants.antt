use Rattle.std.proofs.Common.{◌≡◌, ◌++◌, drop, map}
use Rattle.row_texts.specs.Texts.{key_of}
use Rattle.row_texts.proofs.reading.keys_of.Given as goal

abbrev pub invariant-loop-entry : goal.invariant-loop-entry
invariant-loop-entry l = l.keys.items ++ map key_of (drop l.entry-index l.entries) ≡ map key_of l.entries
