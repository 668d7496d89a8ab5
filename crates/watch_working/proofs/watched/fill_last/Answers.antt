use Rattle.std.proofs.Common.{◌≡◌, ◌<◌, ◌-◌, ◌++◌, ◌∷◌, [], ℕ, List, length, length-set, get_or, set}
use Rattle.std.proofs.Common.{sym, ap, subst, ◌∙◌, arith}
use Rattle.std.proofs.lemmas.List.{get_or-set_same}
use mathlib.Core.List.{IsPrefix}
use Rattle.line_law.specs.declared.call.Entry.{Entry}
use Rattle.instrument_rule.specs.declared.view.View.{View}
use Rattle.line_watch.specs.Boards.{BoardFields}
use Rattle.line_watch.specs.Watching.{Observer}
use Rattle.signalman_seats.specs.Men.{Man}
use Rattle.watch_working.specs.Watched.{BeginsWithAll}
use Rattle.watch_working.proofs.LastRounds.{lends_and_takes}
use Rattle.watch_working.proofs.watched.fill_last.Goals as goal

pub returns-clause-men : goal.returns-clause-men
returns-clause-men c =
    let told = c.take_watch.ensures in
    lends_and_takes c.args.line.now.table.shared.key c.args.men.now c.gather.new.men c.index-men-0.result
    c.index-men-0-2.result c.lend_watch.new.self c.take_watch.new.self c.requires.some c.gather.ensures.men
    c.lend_watch.ensures.same (record { begins = told.mine.begins; legal = told.legal; kept = told.kept })

pub returns-clause-filled : goal.returns-clause-filled
returns-clause-filled c =
    let old : BoardFields = c.args.board.now in
    let filled = c.fill.ensures.filled in
    let none : old.left - 1 ≡ 0 = let left = c.requires.left in omega arith in
    let start : List Entry = c.new-watcher.result.view.seen in
    let e : Man = c.index-men-0.result in
    let first : Man = c.take_watch.new.self in
    let lent : List Man = set c.gather.new.men 0 c.lend_watch.new.self in
    let start_is : start ≡ (get_or c.gather.new.men 0 e).view.seen =
    ap (λ (w : Observer). w.view.seen) c.new-watcher.ensures ∙ ap (λ (v : View). v.seen) c.lend_watch.ensures.watch in
    let some : 0 < length lent =
    (let l = length-set c.gather.new.men 0 c.lend_watch.new.self in let each = c.gather.ensures.men.each in
    let h = c.requires.some in omega arith) in
    let log : IsPrefix c.fill.new.watcher.view.seen first.view.seen =
    subst (λ (v : View). IsPrefix v.seen first.view.seen) c.into_post-2.ensures.post.1 c.take_watch.ensures.others in (
      filled.0,
      filled.1 ∙ ap (λ (n : ℕ). record { boxes = old.boxes; left = n; rounds = old.rounds ++ filled.0 ∷ [] }) none,
      record {
        start = start;
        log = c.fill.new.watcher.view.seen;
        begins = subst (λ (es : List Entry). IsPrefix c.args.watcher.view.seen es) (sym start_is)
            (subst (λ (v : View). IsPrefix v.seen (get_or c.gather.new.men 0 e).view.seen) c.into_post.ensures.post.1
            (c.gather.ensures.post e));
        gathered = subst (λ (es : List Entry). BeginsWithAll (length c.args.men.now) c.args.men.now es) (sym start_is)
            (c.gather.ensures.gathered e);
        looked = filled.2;
        seen = λ d. subst (λ (m : Man). IsPrefix c.fill.new.watcher.view.seen m.view.seen)
            (sym (get_or-set_same lent 0 first d some)) log;
      },
    )
