use Rattle.typed_words.proofs.Calls.{typed_calls, typed_moves}
use Rattle.typed_words.proofs.reading.read_typed.Goals as goal

pub returns-clause-call : goal.returns-clause-call
returns-clause-call c =
    typed_calls c.args.plan.now c.args.box_no c.args.last_moment c.args.line.now _ c.line_read.ensures.plan
    c.requires.at c.requires.day c.line_read.ensures.exact

pub returns-clause-moves : goal.returns-clause-moves
returns-clause-moves c =
    typed_moves c.args.plan.now c.args.box_no c.args.last_moment c.args.line.now _ c.line_read.ensures.exact
