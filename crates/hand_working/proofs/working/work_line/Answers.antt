use Rattle.hand_working.specs.Duties.{doings_of, post_of}
use Rattle.hand_working.proofs.Transcripts.{grows_more, onward_one}
use Rattle.hand_working.proofs.working.work_line.Goals as goal

pub returns-in_err-more-clause-told : goal.returns-in_err-more-clause-told
returns-in_err-more-clause-told g c =
    grows_more (g.L.Sink.taken c.args.told.now) (g.L.Sink.taken c.ask.new.told)
    (g.L.Sink.taken c.answer_line.new.told) c.ask.ensures.told c.answer_line.ensures.told

pub returns-clause-told : goal.returns-clause-told
returns-clause-told g c =
    grows_more (g.L.Sink.taken c.args.told.now) (g.L.Sink.taken c.ask.new.told)
    (g.L.Sink.taken c.answer_line.new.told) c.ask.ensures.told c.answer_line.ensures.told

pub returns-clause-onward : goal.returns-clause-onward
returns-clause-onward g c =
    λ more. onward_one c.args.manner (post_of c.args.duty.now) (doings_of c.args.duty.now) _ _ _ c.as_str.result.now _ _
    c.in_ok-more.more (rw c.as_str.ensures.value (rw c.in-Some.is at c.in_ok-line.ensures.given))
    c.in_ok-more.ensures.doings c.in_ok-more.ensures.put c.in_ok-more.ensures.onward more
