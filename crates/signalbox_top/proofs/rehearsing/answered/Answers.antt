use Rattle.std.proofs.Common.{sym, arith}
use Rattle.std.proofs.lemmas.List.{length-map}
use Rattle.signalbox_top.proofs.rehearsing.answered.Goals as goal

pub rehearsed-answer-requires-clause-texts : goal.rehearsed-answer-requires-clause-texts
rehearsed-answer-requires-clause-texts g c =
    omega (
      arith,
      c.in_ok-run.ensures.texts.each,
      length-map c.args.wanted.now.scripts.now (λ name. name.now),
      c.in_ok-run.ensures.count,
    )

pub rehearsed-answer-requires-clause-names : goal.rehearsed-answer-requires-clause-names
rehearsed-answer-requires-clause-names g c = sym c.in_ok-run.ensures.count
