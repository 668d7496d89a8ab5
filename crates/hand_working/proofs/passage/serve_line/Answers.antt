use Rattle.std.proofs.Common.{arith}
use Rattle.hand_working.proofs.passage.serve_line.Goals as goal

pub answer_line-requires-clause-call : goal.answer_line-requires-clause-call
answer_line-requires-clause-call g c =
    λ call e. (let typed = (c.in_ok-typed.ensures.call call).0 e in (
      rw (c.plan.ensures, c.box_no.ensures, c.session-session.ensures) at typed.spelled.known,
      omega (arith, typed.later, c.moment.ensures.same),
    ))
