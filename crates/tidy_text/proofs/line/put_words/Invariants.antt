use Rattle.std.proofs.Common.{◌≡◌, ◌++◌, false, drop}
use Rattle.tidy_text.proofs.Words.{put_from}
use Rattle.tidy_text.proofs.line.put_words.Given as goal

abbrev pub invariant-loop-byte : goal.invariant-loop-byte
invariant-loop-byte l =
    l.out.items ++ put_from l.has_word l.has_blank (drop l.byte-index l.text)
    ≡ l.fn.out.items ++ put_from false false l.text
