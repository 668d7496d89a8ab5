use Rattle.std.proofs.Common.{◌≡◌, ◌+◌, length}
use Rattle.reply_sentences.proofs.sentence.Sentence.say_shown.Given as goal

abbrev pub invariant-loop-byte : goal.invariant-loop-byte
invariant-loop-byte l = length l.self ≡ length l.initial.self + l.byte-index
