use Rattle.std.proofs.Common.{◌≡◌, ◌++◌, take}
use Rattle.tidy_text.specs.Tidy.{spaced}
use Rattle.tidy_text.proofs.line.put_spaced.Given as goal

abbrev pub invariant-loop-byte : goal.invariant-loop-byte
invariant-loop-byte l = l.out.items ≡ l.fn.out.items ++ spaced (take l.byte-index l.text)
