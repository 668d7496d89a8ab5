use Rattle.std.proofs.Common.{◌++◌, ◌≤◌, ℕ, List, length, sym, ap, ◌∙◌}
use Rattle.tidy_text.proofs.Words.{put_end, puts_words}
use Rattle.tidy_text.proofs.line.put_words.Goals as goal

pub returns : goal.returns
returns c =
    let all : length c.args.text.now ≤ c.loop-byte.byte-index = search in
    sym (put_end c.loop-byte.out.items c.loop-byte.has_word c.loop-byte.has_blank c.loop-byte.byte-index
    c.args.text.now all)
    ∙ c.loop-byte.invariant ∙ ap (λ (xs : List ℕ). c.args.out.now.items ++ xs) (puts_words c.args.text.now)
