use Rattle.std.proofs.Common.{◌≡◌, ◌++◌, map, take, string_bytes}
use Rattle.fault_sentences.specs.Explained.{shown_byte}
use Rattle.fault_sentences.proofs.explained.put_shown.Given as goal

abbrev pub invariant-loop-byte : goal.invariant-loop-byte
invariant-loop-byte l = string_bytes l.out ≡ string_bytes l.fn.out ++ map shown_byte (take l.byte-index l.bytes)
