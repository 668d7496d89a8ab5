use Rattle.std.proofs.lemmas.Result.{IfOk-weaker}
use Rattle.hand_working.proofs.Told.{spelled_in}
use Rattle.hand_working.proofs.book.book_of.Goals as goal

pub returns-clause-spelled : goal.returns-clause-spelled
returns-clause-spelled c =
    IfOk-weaker c.register_of.result _ _
    (λ register e. spelled_in _ c.box_no.result c.journal.result.now register.entries e
    (rw (c.journal.ensures, c.session-session.ensures) c.is_spelled.ensures)) c.register_of.ensures.entries
