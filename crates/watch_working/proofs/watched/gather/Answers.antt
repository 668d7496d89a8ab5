use Rattle.std.proofs.Common.{◌<◌, get_or, length, sym, subst, arith}
use mathlib.Core.List.{IsPrefix}
use Rattle.instrument_rule.specs.declared.view.View.{View}
use Rattle.signalman_seats.specs.Men.{IsOf, Man}
use Rattle.watch_working.proofs.Taking.{gathers_first, gathers_next}
use Rattle.watch_working.proofs.watched.gather.Goals as goal

pub loop-b-init : goal.loop-b-init
loop-b-init c =
    let told = c.take_watch.ensures in
    record {
      gathered = gathers_first c.args.line.now.table.shared.key c.args.post.seat.me.0.seen c.args.men.now
          c.index-men-0.result c.take_watch.new.self c.requires.some
          (record { begins = told.mine.begins; legal = told.legal; kept = told.kept }) told.others;
    }

pub lend_watch-post-requires : goal.lend_watch-post-requires
lend_watch-post-requires c =
    let line = c.args.line.now in
    let b = c.loop-b.b in
    let e : Man = c.index-men-b.result in
    let now = c.loop-b.invariant.gathered in
    let low = c.loop-b.auto.b in
    let high = c.loop-b-test.true in
    let same = c.loop-b.auto.men in
    let within : b < length c.args.men.now = let each = now.men.each in omega arith in
    subst (λ (m : Man). IsOf line.table.shared.table_id line.table.shared.key m)
    (sym (now.men.others b e (omega arith) within)) (c.requires.of_line b e within)

pub loop-b-preserved : goal.loop-b-preserved
loop-b-preserved c =
    let b = c.loop-b.b in
    let e : Man = c.index-men-b.result in
    let first : Man = c.take_watch-in-loop-b.new.self in
    let told = c.take_watch-in-loop-b.ensures in
    let now = c.loop-b.invariant.gathered in
    let low = c.loop-b.auto.b in
    let high = c.loop-b-test.true in
    let same = c.loop-b.auto.men in
    let within : b < length c.args.men.now = let each = now.men.each in omega arith in
    let theirs : IsPrefix (get_or c.loop-b.men b e).view.seen first.view.seen =
    subst (λ (v : View). IsPrefix v.seen first.view.seen) c.lend_watch-post.ensures.watch told.others in
    record {
      gathered = gathers_next c.args.line.now.table.shared.key c.args.post.seat.me.0.seen b c.args.men.now c.loop-b.men
          e c.index-men-0-in-loop-b.result c.lend_watch-post.new.self first (omega arith) within now
          c.lend_watch-post.ensures.same
          (record { begins = told.mine.begins; legal = told.legal; kept = told.kept }) theirs;
    }
