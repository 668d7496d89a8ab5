use Rattle.std.proofs.Common.{◌≡◌, sym, ℕ, ◌+◌, ◌-◌, ◌∙◌, subst, arith, false}
use Rattle.signalman_seats.specs.Asking.{Decided, IsHit, IsMissed, Waited}
use Rattle.instrument_rule.specs.Posts.{plan_of, view_of}
use Rattle.signalman_seats.proofs.Judging.{as_before, of_err, of_ok, of_same}
use Rattle.signalman_seats.proofs.Looking.{await_told, decided_after, differ, more_waits, same_met}
use Rattle.signalman_seats.proofs.looks.decide.Goals as goal
use Rattle.signalman_seats.proofs.looks.decide.Goals.{then-ask, else-ask}

pub returns-in-Ok-clause-decided : goal.returns-in-Ok-clause-decided
returns-in-Ok-clause-decided g c =
    decided_after (plan_of c.args.line.now) c.args.ask.now.call (view_of c.args.post.now)
    (view_of c.loop-left.post) (view_of c.look_next-taken.new.post) (c.if-ask.left - c.loop-left.left) c.in-Ok.word
    c.look_next-taken.result.0 c.args.looks
    (elim c.if-ask.branch [
      | then-ask w ↦ (let e = w.left-is in let t = c.loop-left-test.true in let k = c.look_next-taken.ensures.some.1 in
          let m = c.loop-left.invariant.most in let o = c.loop-left.invariant.some in
          omega arith)
      | else-ask w ↦ (let e = w.left-is in let t = c.loop-left-test.true in
          let m = c.loop-left.invariant.most in let o = c.loop-left.invariant.some in let l = c.requires.looks in
          omega arith)
    ])
    (λ await miss. (let hit = of_ok (IsHit (plan_of c.args.line.now) c.args.ask.now.call
    (view_of c.loop-left.post)) c.look_next-taken.result.1 c.in-Ok.word c.in-Ok.is
    c.look_next-taken.ensures.came.hit in
    let gone = same_met (plan_of c.args.line.now) (view_of c.args.post.now) (view_of c.loop-left.post)
    (c.if-ask.left - c.loop-left.left) c.args.ask.now.call c.in-Ok.word c.loop-left.invariant.waited.watched miss in
    absurd (differ (sym hit ∙ gone))))
    c.requires.may.holds c.loop-left.invariant.waited
    (of_ok (λ n. Decided (plan_of c.args.line.now) c.args.ask.now.call c.look_next-taken.result.0
    (view_of c.loop-left.post) n (view_of c.look_next-taken.new.post)) c.look_next-taken.result.1 c.in-Ok.word
    c.in-Ok.is c.look_next-taken.ensures.came.decided)

pub loop-left-preserved : goal.loop-left-preserved
loop-left-preserved g c = record {
  table = c.look_next-taken.ensures.same ∙ c.loop-left.invariant.table;
  waited = subst (λ (l : ℕ). Waited (plan_of c.args.line.now) c.args.ask.now.call (view_of c.args.post.now) l
      (view_of c.look_next-taken.new.post)) count
      (more_waits (plan_of c.args.line.now) c.args.ask.now.call (view_of c.args.post.now)
      (view_of c.loop-left.post) (view_of c.look_next-taken.new.post) (c.if-ask.left - c.loop-left.left)
      c.look_next-taken.result.0 c.requires.may.holds c.loop-left.invariant.waited short.0);
  most = let m = c.loop-left.invariant.most in omega arith;
  some = let t = c.loop-left-test.true in let k = c.look_next-taken.ensures.some.1 in omega arith;
  once = λ e. (let o = c.loop-left.invariant.once e in omega arith);
  alone = of_same (IsMissed (plan_of c.args.line.now) c.args.ask.now.call (view_of c.args.post.now))
      c.rest-alone.result c.in-Err.unmet
      (as_before (plan_of c.args.line.now) (view_of c.args.post.now) (view_of c.loop-left.post)
      (c.if-ask.left - c.loop-left.left) c.args.ask.now.call c.in-Err.unmet false
      c.loop-left.invariant.waited.watched short.1) c.rest-alone.ensures;
}
  where
    short : Waited (plan_of c.args.line.now) c.args.ask.now.call (view_of c.loop-left.post)
        c.look_next-taken.result.0 (view_of c.look_next-taken.new.post)
        × IsMissed (plan_of c.args.line.now) c.args.ask.now.call (view_of c.loop-left.post) c.in-Err.unmet
    short = of_err (λ n. Waited (plan_of c.args.line.now) c.args.ask.now.call (view_of c.loop-left.post)
        c.look_next-taken.result.0 (view_of c.look_next-taken.new.post)
        × IsMissed (plan_of c.args.line.now) c.args.ask.now.call (view_of c.loop-left.post) n)
        c.look_next-taken.result.1 c.in-Err.unmet c.in-Err.is c.look_next-taken.ensures.came.waited

    count : c.if-ask.left - c.loop-left.left + c.look_next-taken.result.0
        ≡ c.if-ask.left - (c.loop-left.left - c.look_next-taken.result.0)
    count = let m = c.loop-left.invariant.most in let k = c.look_next-taken.ensures.some.1 in
        let t = c.loop-left-test.true in omega arith

pub returns-then-ask-2-clause-decided : goal.returns-then-ask-2-clause-decided
returns-then-ask-2-clause-decided g c =
    decided_after (plan_of c.args.line.now) c.args.ask.now.call (view_of c.args.post.now)
    (view_of c.loop-left.post) (view_of c.look.new.post) (c.if-ask.left - c.loop-left.left) c.unwrap-word.result 1
    c.args.looks
    (elim c.if-ask.branch [
      | then-ask w ↦ (let e = w.left-is in let t = c.loop-left-test.false in
          let m = c.loop-left.invariant.most in let o = c.loop-left.invariant.some in
          omega arith)
      | else-ask w ↦ (let e = w.left-is in let t = c.loop-left-test.false in
          let m = c.loop-left.invariant.most in let o = c.loop-left.invariant.some in let l = c.requires.looks in
          omega arith)
    ])
    (λ await miss. elim c.if-ask.branch [
      | then-ask w ↦ (let e = w.left-is in let t = c.loop-left-test.false in
          let m = c.loop-left.invariant.most in let o = c.loop-left.invariant.some in
          omega arith)
      | else-ask w ↦ (let a = await_told (plan_of c.args.line.now) (view_of c.args.post.now)
          c.args.desk.now c.args.ask.now c.requires.ask await in let e = w.if-ask.false in absurd (differ (sym a ∙ e)))
    ])
    c.requires.may.holds c.loop-left.invariant.waited
    (of_ok (λ n. Decided (plan_of c.args.line.now) c.args.ask.now.call 1 (view_of c.loop-left.post) n
    (view_of c.look.new.post)) c.look.result c.unwrap-word.result c.unwrap-word.ensures c.look.ensures.came.decided)

pub returns-else-ask-2-clause-decided : goal.returns-else-ask-2-clause-decided
returns-else-ask-2-clause-decided g c =
    decided_after (plan_of c.args.line.now) c.args.ask.now.call (view_of c.args.post.now)
    (view_of c.loop-left.post) (view_of c.look.new.post) (c.if-ask.left - c.loop-left.left) c.unwrap-word.result 1
    c.args.looks
    (elim c.if-ask.branch [
      | then-ask w ↦ (let e = w.left-is in let t = c.loop-left-test.false in
          let m = c.loop-left.invariant.most in let o = c.loop-left.invariant.some in
          omega arith)
      | else-ask w ↦ (let e = w.left-is in let t = c.loop-left-test.false in
          let m = c.loop-left.invariant.most in let o = c.loop-left.invariant.some in let l = c.requires.looks in
          omega arith)
    ])
    (λ await miss. elim c.if-ask.branch [
      | then-ask w ↦ (let e = w.left-is in let t = c.loop-left-test.false in
          let m = c.loop-left.invariant.most in let o = c.loop-left.invariant.some in
          omega arith)
      | else-ask w ↦ (let a = await_told (plan_of c.args.line.now) (view_of c.args.post.now)
          c.args.desk.now c.args.ask.now c.requires.ask await in let e = w.if-ask.false in absurd (differ (sym a ∙ e)))
    ])
    c.requires.may.holds c.loop-left.invariant.waited
    (of_ok (λ n. Decided (plan_of c.args.line.now) c.args.ask.now.call 1 (view_of c.loop-left.post) n
    (view_of c.look.new.post)) c.look.result c.unwrap-word.result c.unwrap-word.ensures c.look.ensures.came.decided)
