use Rattle.std.proofs.Common.{◌≤◌, length}
use Rattle.reply_sentences.proofs.sentence.Sentence.say_code.Given as goal

abbrev pub invariant-loop-at : goal.invariant-loop-at
invariant-loop-at l = length l.initial.self ≤ length l.self
