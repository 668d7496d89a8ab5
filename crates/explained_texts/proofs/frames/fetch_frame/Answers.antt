use native.Mathlib.Omega.{arith}
use Rattle.std.proofs.Common.{◌+◌}
use Rattle.line_plan.specs.Limits.{most_bytes}
use Rattle.explained_texts.proofs.Alone.{frame_given}
use Rattle.explained_texts.proofs.Stopped.{front}
use Rattle.explained_texts.proofs.frames.fetch_frame.Goals as goal

pub returns-then-len-gt-PLAN_LIMIT-clause-explained : goal.returns-then-len-gt-PLAN_LIMIT-clause-explained
returns-then-len-gt-PLAN_LIMIT-clause-explained g c = c.not_alone.ensures (g.S.Shelf.held c.args.shelf.now)

pub returns-in-Err-clause-explained : goal.returns-in-Err-clause-explained
returns-in-Err-clause-explained g c =
    let held = g.S.Shelf.held c.args.shelf.now in
    c.in-Err.ensures.explained held
    (rw c.deref.ensures.value
    (front (held c.args.name.now) (most_bytes + 1) c.in_ok-lines.lines.items c.in_ok-lines.ensures.bytes))

pub returns-in-Ok-clause-frame : goal.returns-in-Ok-clause-frame
returns-in-Ok-clause-frame g c =
    let held = g.S.Shelf.held c.args.shelf.now in
    record {
      plan_is =
          frame_given (held c.args.name.now) c.in_ok-lines.lines.items c.in-Ok.plan c.in_ok-lines.ensures.bytes
          (omega (arith, c.if-len-gt-PLAN_LIMIT.false, c.len.ensures))
          (rw c.deref.ensures.value at c.in-Ok.ensures.plan);
      no_place = c.in-Ok.ensures.place;
    }
