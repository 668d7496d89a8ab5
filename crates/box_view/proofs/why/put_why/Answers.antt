use Rattle.std.proofs.Common.{string_bytes}
use Rattle.std.proofs.lemmas.Result.{on_ok_weaker}
use Rattle.box_view.proofs.why.put_why.Goals as goal

pub returns : goal.returns
returns c =
    on_ok_weaker c.put_line-2.result
    (λ third. (
      string_bytes c.put_sentence_line.new.out,
      string_bytes c.put_line.new.out,
      c.in_ok-put_sentence_line.ensures,
      c.in_ok-put_line.ensures,
      third,
    ))
    c.put_line-2.ensures
