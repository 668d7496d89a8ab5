use Rattle.std.proofs.Common.{◌+◌, ◌%◌, ◌^◌, ◌==◌, ap, ◌∙◌, sym}
use prog.Atomic.{either}
use Rattle.token_block.specs.declared.words.TokenOp.{TokenOp}
use Rattle.token_block.specs.Steps.{op_word, word_after}
use Rattle.token_block.specs.Words.{place_of}
use Rattle.token_block.proofs.Doing.{by_either, counted, hands, no_step, word_by}
use Rattle.token_block.proofs.post.TokenPost.step_as.Goals as goal

pub fetch_add-requires : goal.fetch_add-requires
fetch_add-requires g c =
    let J = g.J.Calling in
    let line = c.args.line.now in
    let id = line.table.shared.table_id in
    let seat = c.args.self.now.seat in
    let b = c.args.box_no in
    let h = hands J.tokens line.table.shared.key id.words id.slots seat.id seat.me J.box_no b J.act c.args.op (1 + b)
    (λ n. (n + 1) % 2 ^ 64) no_step c.requires.tokens c.requires.box_no line.wide c.requires.sits c.requires.may
    c.requires.op (sym (ap (λ (o : TokenOp). place_of (op_word b o)) c.in-Count.is))
    (λ n few. ap (λ (o : TokenOp). word_after o n) c.in-Count.is ∙ counted n few) in
    (c.requires.line, h.0, h.1)

pub compare_exchange-requires : goal.compare_exchange-requires
compare_exchange-requires g c =
    let J = g.J.Calling in
    let line = c.args.line.now in
    let id = line.table.shared.table_id in
    let seat = c.args.self.now.seat in
    let b = c.args.box_no in
    let from = c.word_of.result in
    let to = c.word_of-in-Change.result in
    let h = hands J.tokens line.table.shared.key id.words id.slots seat.id seat.me J.box_no b J.act c.args.op 3
    (λ n. either (n == from) to n) no_step c.requires.tokens c.requires.box_no line.wide c.requires.sits
    c.requires.may c.requires.op (sym (ap (λ (o : TokenOp). place_of (op_word b o)) c.in-Change.is))
    (λ n few. ap (λ (o : TokenOp). word_after o n) c.in-Change.is ∙
    ((λ i. word_by n (sym c.word_of.ensures i) (sym c.word_of-in-Change.ensures i)) ∙ by_either (n == from) to n)) in
    (c.requires.line, h.0, h.1)

pub swap-requires : goal.swap-requires
swap-requires g c =
    let J = g.J.Calling in
    let line = c.args.line.now in
    let id = line.table.shared.table_id in
    let seat = c.args.self.now.seat in
    let b = c.args.box_no in
    let to = c.word_of-in-Move.result in
    let h = hands J.tokens line.table.shared.key id.words id.slots seat.id seat.me J.box_no b J.act c.args.op 3
    (λ _. to) no_step c.requires.tokens c.requires.box_no line.wide c.requires.sits c.requires.may c.requires.op
    (sym (ap (λ (o : TokenOp). place_of (op_word b o)) c.in-Move.is))
    (λ n few. ap (λ (o : TokenOp). word_after o n) c.in-Move.is ∙ sym c.word_of-in-Move.ensures) in
    (c.requires.line, h.0, h.1)

pub load-requires : goal.load-requires
load-requires g c =
    let J = g.J.Calling in
    let line = c.args.line.now in
    let id = line.table.shared.table_id in
    let seat = c.args.self.now.seat in
    let b = c.args.box_no in
    let h = hands J.tokens line.table.shared.key id.words id.slots seat.id seat.me J.box_no b J.act c.args.op 3
    (λ n. n) no_step c.requires.tokens c.requires.box_no line.wide c.requires.sits c.requires.may c.requires.op
    (sym (ap (λ (o : TokenOp). place_of (op_word b o)) c.in-Look.is))
    (λ n few. ap (λ (o : TokenOp). word_after o n) c.in-Look.is) in
    (c.requires.line, h.0, h.1)
