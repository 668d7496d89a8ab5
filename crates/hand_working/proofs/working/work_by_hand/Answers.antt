use Rattle.hand_working.proofs.Transcripts.{grows_more, grows_part}
use Rattle.hand_working.proofs.working.work_by_hand.Goals as goal

pub returns-in_err-work_lines-clause-grows : goal.returns-in_err-work_lines-clause-grows
returns-in_err-work_lines-clause-grows g c =
    grows_more (g.K.Sink.taken c.args.out.now) (g.K.Sink.taken c.put_passage.new.out)
    (g.K.Sink.taken c.work_lines.new.out) c.put_passage.ensures.grows c.work_lines.ensures.grows

pub returns-in_err-work_lines-clause-told : goal.returns-in_err-work_lines-clause-told
returns-in_err-work_lines-clause-told g c =
    grows_more (g.L.Sink.taken c.args.told.now) (g.L.Sink.taken c.put_passage.new.told)
    (g.L.Sink.taken c.work_lines.new.told) c.put_passage.ensures.told c.work_lines.ensures.told

pub returns-in_err-text-2-clause-grows : goal.returns-in_err-text-2-clause-grows
returns-in_err-text-2-clause-grows g c =
    grows_more (g.K.Sink.taken c.args.out.now) (g.K.Sink.taken c.put_passage.new.out)
    (g.K.Sink.taken c.work_lines.new.out) c.put_passage.ensures.grows c.work_lines.ensures.grows

pub returns-in_err-text-2-clause-told : goal.returns-in_err-text-2-clause-told
returns-in_err-text-2-clause-told g c =
    grows_more (g.L.Sink.taken c.args.told.now) (g.L.Sink.taken c.put_passage.new.told)
    (g.L.Sink.taken c.work_lines.new.told) c.put_passage.ensures.told c.work_lines.ensures.told

pub returns-in_err-put_all-clause-grows : goal.returns-in_err-put_all-clause-grows
returns-in_err-put_all-clause-grows g c =
    let lines =
    grows_more (g.K.Sink.taken c.args.out.now) (g.K.Sink.taken c.put_passage.new.out)
    (g.K.Sink.taken c.work_lines.new.out) c.put_passage.ensures.grows c.work_lines.ensures.grows
    in
    grows_more (g.K.Sink.taken c.args.out.now) (g.K.Sink.taken c.work_lines.new.out)
    (g.K.Sink.taken c.put_all.new.sink) lines
    (grows_part _ _ c.as_bytes.result.now c.in_err-put_all.ensures.part)

pub returns-in_err-put_all-clause-told : goal.returns-in_err-put_all-clause-told
returns-in_err-put_all-clause-told g c =
    grows_more (g.L.Sink.taken c.args.told.now) (g.L.Sink.taken c.put_passage.new.told)
    (g.L.Sink.taken c.work_lines.new.told) c.put_passage.ensures.told c.work_lines.ensures.told

pub returns-clause-grows : goal.returns-clause-grows
returns-clause-grows g c =
    let lines =
    grows_more (g.K.Sink.taken c.args.out.now) (g.K.Sink.taken c.put_passage.new.out)
    (g.K.Sink.taken c.work_lines.new.out) c.put_passage.ensures.grows c.work_lines.ensures.grows
    in
    grows_more (g.K.Sink.taken c.args.out.now) (g.K.Sink.taken c.work_lines.new.out)
    (g.K.Sink.taken c.put_all.new.sink) lines
    (c.as_bytes.result.now, c.in_ok-put_all.ensures.all)

pub returns-clause-told : goal.returns-clause-told
returns-clause-told g c =
    grows_more (g.L.Sink.taken c.args.told.now) (g.L.Sink.taken c.put_passage.new.told)
    (g.L.Sink.taken c.work_lines.new.told) c.put_passage.ensures.told c.work_lines.ensures.told
