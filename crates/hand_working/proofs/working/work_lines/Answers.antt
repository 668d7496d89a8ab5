use Rattle.std.proofs.Common.{arith, refl, rules, ◌∙◌}
use Rattle.hand_working.proofs.Transcripts.{grows_more, grows_none, lines_onward, onward_none, onward_then}
use Rattle.hand_working.proofs.working.work_lines.Goals as goal

pub returns-in_err-work_line-clause-grows : goal.returns-in_err-work_line-clause-grows
returns-in_err-work_line-clause-grows g c =
    grows_more (g.K.Sink.taken c.args.out.now) (g.K.Sink.taken c.loop.out) (g.K.Sink.taken c.work_line.new.out)
    c.loop.invariant.grows c.work_line.ensures.grows

pub returns-in_err-work_line-clause-told : goal.returns-in_err-work_line-clause-told
returns-in_err-work_line-clause-told g c =
    grows_more (g.L.Sink.taken c.args.told.now) (g.L.Sink.taken c.loop.told) (g.L.Sink.taken c.work_line.new.told)
    c.loop.invariant.told c.work_line.ensures.told

pub returns-then-not-branch-clause-lines : goal.returns-then-not-branch-clause-lines
returns-then-not-branch-clause-lines g c =
    lines_onward _ _ _ _ _ _ _ _ _ _ _ _ c.loop.invariant.post c.loop.invariant.lines c.in_ok-work_line.ensures.lines

pub returns-then-not-branch-clause-grows : goal.returns-then-not-branch-clause-grows
returns-then-not-branch-clause-grows g c =
    grows_more (g.K.Sink.taken c.args.out.now) (g.K.Sink.taken c.loop.out) (g.K.Sink.taken c.work_line.new.out)
    c.loop.invariant.grows c.work_line.ensures.grows

pub returns-then-not-branch-clause-told : goal.returns-then-not-branch-clause-told
returns-then-not-branch-clause-told g c =
    grows_more (g.L.Sink.taken c.args.told.now) (g.L.Sink.taken c.loop.told) (g.L.Sink.taken c.work_line.new.told)
    c.loop.invariant.told c.work_line.ensures.told

pub loop-preserved : goal.loop-preserved
loop-preserved g c = record {
  post = c.work_line.ensures.post ∙ c.loop.invariant.post;
  lines =
      onward_then _ _ _ _ _ _ _ _ _ _ _ _ c.loop.invariant.post c.loop.invariant.lines
      (c.in_ok-work_line.ensures.onward (search rules));
  grows =
      grows_more (g.K.Sink.taken c.args.out.now) (g.K.Sink.taken c.loop.out) (g.K.Sink.taken c.work_line.new.out)
      c.loop.invariant.grows c.work_line.ensures.grows;
  told =
      grows_more (g.L.Sink.taken c.args.told.now) (g.L.Sink.taken c.loop.told) (g.L.Sink.taken c.work_line.new.told)
      c.loop.invariant.told c.work_line.ensures.told;
  later = omega (arith, c.loop.invariant.later, c.work_line.ensures.later);
}

pub loop-init : goal.loop-init
loop-init g c = record {
  post = refl;
  lines = onward_none _ _ _ _ _;
  grows = grows_none _;
  told = grows_none _;
  later = omega arith;
}
