use Rattle.std.proofs.Common.{drop}
use Rattle.reply_sentences.specs.Sentences.{ArePrinting}
use Rattle.reply_sentences.proofs.sentence.are_printing.Given as goal

abbrev pub invariant-loop-byte : goal.invariant-loop-byte
invariant-loop-byte l = ArePrinting (drop l.byte-index l.bytes) → ArePrinting l.bytes
