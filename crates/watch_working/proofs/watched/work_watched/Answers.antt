use Rattle.std.proofs.Common.{◌≡◌, ◌<◌, ◌++◌, ◌∷◌, [], ℕ, List, length, length-append, get_or, set}
use Rattle.std.proofs.Common.{sym, ap, subst, ◌∙◌, arith, append_assoc}
use Rattle.std.proofs.lemmas.List.{set-get_or}
use Rattle.script_text.specs.declared.script.Script.{Script}
use Rattle.instrument_rule.specs.declared.view.View.{View}
use Rattle.line_watch.specs.Boards.{BoardFields}
use Rattle.line_watch.specs.Watching.{Observer}
use Rattle.line_watch.specs.declared.sight.Sight.{Sight}
use Rattle.line_working.specs.Working.{CanWork}
use Rattle.signalman_seats.specs.Men.{Man}
use Rattle.watch_working.proofs.LastRounds.{HaveWorked, all_worked, is_watched}
use Rattle.watch_working.proofs.watched.work_watched.Goals as goal

no_script : Script
no_script = record { box_no = 0; calls = [] }

-- a man who lends a post is as he was
as_before : (men : List Man) (e lent : Man) → lent ≡ get_or men 0 e → set men 0 lent ≡ men
as_before men e lent same = ap (λ (m : Man). set men 0 m) same ∙ set-get_or men 0 e

pub lend_watch-requires : goal.lend_watch-requires
lend_watch-requires g c = (c.requires.ready 0 c.index-men-0.result no_script c.requires.some).of_line

pub work_beside-requires-clause-ready : goal.work_beside-requires-clause-ready
work_beside-requires-clause-ready g c κs within =
    let line = c.args.line.now in
    subst (λ (men : List Man). (i : ℕ) (d : Man) (e : Script) → i < length men
    → CanWork line.table.shared.table_id line.table.shared.key (get_or c.args.scripts.now i e) (get_or men i d))
    (sym (as_before c.args.men.now c.index-men-0.result c.lend_watch.new.self c.lend_watch.ensures.same))
    c.requires.ready

pub work_beside-requires-clause-line : goal.work_beside-requires-clause-line
work_beside-requires-clause-line g c κs within =
    let is = c.new-watcher.ensures in
    let lent = c.lend_watch.ensures.watch in (
      ap (λ (w : Observer). w.table_id) is ∙ c.lend_watch.ensures.line,
      (
        ap (λ (w : Observer). w.view.plan) is ∙ (ap (λ (v : View). v.plan) lent
            ∙ (c.requires.ready 0 c.index-men-0.result no_script c.requires.some).of_line.1),
        ap (λ (w : Observer). w.view.olds) is ∙ ap (λ (v : View). v.olds) lent,
      ),
    )

pub fill_last-requires-clause-of_line : goal.fill_last-requires-clause-of_line
fill_last-requires-clause-of_line g c b d lt =
    (c.work_beside.ensures.worked b d no_script (subst (λ (n : ℕ). b < n) c.work_beside.ensures.count lt)).of_line

pub returns-clause-worked : goal.returns-clause-worked
returns-clause-worked g c =
    let line = c.args.line.now in
    let before : List Man = c.args.men.now in
    let now : List Man = c.work_beside.new.men in
    let same = as_before before c.index-men-0.result c.lend_watch.new.self c.lend_watch.ensures.same in
    let did : HaveWorked line.table.shared.table_id line.table.shared.key c.args.scripts.now c.args.looks before now =
    subst (λ (men : List Man).
    HaveWorked line.table.shared.table_id line.table.shared.key c.args.scripts.now c.args.looks men now)
    same c.work_beside.ensures.worked in
    all_worked line.table.shared.table_id line.table.shared.key c.args.scripts.now c.args.looks before now
    c.fill_last.new.men (c.work_beside.ensures.count ∙ ap (λ (men : List Man). length men) same) did
    c.fill_last.ensures.men c.fill_last.ensures.part

pub returns-clause-watched : goal.returns-clause-watched
returns-clause-watched g c =
    let line = c.args.line.now in
    let before : List Man = c.args.men.now in
    let now : List Man = c.work_beside.new.men in
    let same = as_before before c.index-men-0.result c.lend_watch.new.self c.lend_watch.ensures.same in
    let did : HaveWorked line.table.shared.table_id line.table.shared.key c.args.scripts.now c.args.looks before now =
    subst (λ (men : List Man).
    HaveWorked line.table.shared.table_id line.table.shared.key c.args.scripts.now c.args.looks men now)
    same c.work_beside.ensures.worked in
    let front = c.work_beside.ensures.filled in
    let last = c.fill_last.ensures.filled in
    let rounds : List (List Sight) = front.0 ++ last.0 ∷ [] in
    let board : c.fill_last.new.board
    ≡ record { boxes = c.args.board.now.boxes; left = 0; rounds = c.args.board.now.rounds ++ rounds } =
    last.1
    ∙ (ap (λ (b : BoardFields). record { boxes = b.boxes; left = 0; rounds = b.rounds ++ last.0 ∷ [] }) front.1
    ∙ ap (λ (rs : List (List Sight)). record { boxes = c.args.board.now.boxes; left = 0; rounds = rs })
    (append_assoc c.args.board.now.rounds front.0 (last.0 ∷ []))) in (
      rounds,
      last.2.log,
      board,
      (let l = length-append front.0 (last.0 ∷ []) in let n = front.2 in omega arith),
      is_watched line.table.shared.table_id line.table.shared.key c.args.scripts.now no_script c.args.looks before now
          c.fill_last.new.men front.0 last.0 c.new-watcher.result.view.seen c.work_beside.new.watcher.view.seen
          (c.work_beside.ensures.count ∙ ap (λ (men : List Man). length men) same) did c.fill_last.ensures.men front.3
          last.2,
    )
