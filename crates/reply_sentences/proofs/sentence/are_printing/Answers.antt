use Rattle.std.proofs.Common.{rules, add-one, arith}
use Rattle.reply_sentences.proofs.Printing.{printing_from}
use Rattle.reply_sentences.proofs.sentence.are_printing.Goals as goal

pub loop-byte-preserved : goal.loop-byte-preserved
loop-byte-preserved c rest =
    c.loop-byte.invariant
    (printing_from c.args.bytes.now c.loop-byte.byte-index 0 (omega (arith, c.loop-byte-test.true)) (search rules)
    (rw add-one at rest))
