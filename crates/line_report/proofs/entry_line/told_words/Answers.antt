use Rattle.std.proofs.Common.{◌∙◌, sym, ap, Some}
use Rattle.line_report.proofs.Arrows.{told_before, told_behind, told_whole}
use Rattle.line_report.proofs.entry_line.told_words.Goals as goal

pub returns-in-None-clause-call : goal.returns-in-None-clause-call
returns-in-None-clause-call c =
    (told_whole c.args.words.now c.between.result c.word_count-count.result c.min-from.result
    c.word_count-count.ensures c.min-from.ensures c.between.ensures (sym c.in-None.is ∙ c.arrow_behind.ensures)).0

pub returns-in-None-clause-reply : goal.returns-in-None-clause-reply
returns-in-None-clause-reply c =
    (told_whole c.args.words.now c.between.result c.word_count-count.result c.min-from.result
    c.word_count-count.ensures c.min-from.ensures c.between.ensures (sym c.in-None.is ∙ c.arrow_behind.ensures)).1

pub returns-in-Some-clause-call : goal.returns-in-Some-clause-call
returns-in-Some-clause-call c =
    c.between-in-Some.ensures
    ∙ told_before c.args.words.now c.word_count-count.result c.min-from.result c.in-Some.many
    c.word_count-count.ensures c.min-from.ensures (sym c.in-Some.is ∙ c.arrow_behind.ensures)

pub returns-in-Some-clause-reply : goal.returns-in-Some-clause-reply
returns-in-Some-clause-reply c =
    ap (λ ws. Some ws) c.between-behind.ensures
    ∙ told_behind c.args.words.now c.word_count-count.result c.min-from.result c.in-Some.many
    c.word_count-count.ensures c.min-from.ensures (sym c.in-Some.is ∙ c.arrow_behind.ensures)
