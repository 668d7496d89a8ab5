use Rattle.std.proofs.Common.{◌≡◌, ◌<◌, ℕ, zero, suc, List, [], ◌∷◌, ◌++◌, drop, get_or, length, slice_get, take, Some}
use Rattle.std.proofs.Common.{replicate, refl, sym, ap, ◌∙◌, subst, arith}
use Rattle.std.proofs.lemmas.Result.{IfOk-weaker}
use Rattle.std.proofs.lemmas.List.{get_or-replicate, length-replicate, take-append-le, take_all}
use Rattle.atomic_table.specs.Seated.{TableId}
use Rattle.line_plan.specs.Plans.{PlanFields}
use Rattle.line_maker.specs.MadeCalls.{AreLineScripts}
use Rattle.script_text.specs.Scripts.{IsScriptOf}
use Rattle.script_text.specs.declared.script.Script.{Script}
use Rattle.signalman_seats.specs.Lines.{AreFresh, AreMen, Closed}
use Rattle.signalman_seats.specs.Men.{IsFresh, Man}
use Rattle.line_working.specs.Working.{CanWork, DidWork}
use Rattle.line_working.proofs.FreshMen.{fresh_works}
use Rattle.line_watch.specs.declared.sight.Sight.{Sight}
use Rattle.line_watch.specs.Boards.{BoardFields}
use Rattle.line_watch.specs.Shown.{IsBoardOf}
use Rattle.watch_working.specs.Watched.{IsWatched}
use Rattle.watch_tests.proofs.line.work.Goals as goal

no_script : Script
no_script = record { box_no = 0; calls = [] }

-- what a slice of all men is written back to
written_back : (n : ℕ) (men old : List Man) → n ≡ length men → take n (men ++ drop (length men) old) ≡ men
written_back n men old e =
    ap (λ (k : ℕ). take k (men ++ drop (length men) old)) e
    ∙ (take-append-le (length men) men (drop (length men) old) (omega arith)
    ∙ take_all (length men) men (omega arith))

script_there : (scripts : List Script) (b : ℕ) (e : Script) → b < length scripts
    → slice_get scripts b ≡ Some (get_or scripts b e)
script_there [] b e lt = absurd (omega arith)
script_there (script ∷ scripts) zero e lt = refl
script_there (script ∷ scripts) (suc b) e lt = script_there scripts b e (omega arith)

-- a man of a line that opens may work the script of his box
can_work : (table_id : TableId) (plan : PlanFields) (scripts : List Script) (men : List Man)
    → AreLineScripts plan scripts → AreFresh table_id plan (replicate (length plan.boxes) 10000) men → (i : ℕ) (d : Man)
    (e : Script) → i < length men → CanWork table_id plan (get_or scripts i e) (get_or men i d)
can_work table_id plan scripts men are fresh i d e lt =
    let box : i < length plan.boxes =
    (let each = fresh.each in omega (arith, length-replicate {A = ℕ} (length plan.boxes) 10000)) in
    let there : i < length scripts = subst (λ (k : ℕ). i < k) (sym are.each) box in
    let own : IsScriptOf plan i (get_or scripts i e) =
    are.own i (get_or scripts i e) (script_there scripts i e there) in
    fresh_works table_id plan i 10000 (get_or scripts i e) (get_or men i d)
    (subst (λ (k : ℕ). IsFresh table_id plan i k (get_or men i d)) (get_or-replicate (length plan.boxes) i 10000 0 box)
    (fresh.fresh i d lt)) own own.few

-- the men who have worked are the men of the line
are_men : (table_id : TableId) (key plan : PlanFields) (scripts : List Script) (looks : ℕ)
    (before lent after : List Man) → key ≡ plan → lent ≡ before
    → AreFresh table_id plan (replicate (length plan.boxes) 10000) before → length after ≡ length lent
    → ((i : ℕ) (d : Man) (e : Script) → i < length lent
    → DidWork table_id key (get_or scripts i e) looks (get_or lent i d) (get_or after i d))
    → AreMen table_id key after
are_men table_id key plan scripts looks before lent after same as_lent fresh each did = record {
  each = each ∙ (ap (λ (men : List Man). length men) as_lent
      ∙ (fresh.each ∙ (length-replicate {A = ℕ} (length plan.boxes) 10000
      ∙ ap (λ (p : PlanFields). length p.boxes) (sym same))));
  of_line = λ b d lt. (did b d no_script (omega (arith, lt, each))).of_line;
  box_no = λ b d lt. (let there : b < length lent = omega (arith, lt, each) in
      (did b d no_script there).box_no ∙ (ap (λ (men : List Man). (get_or men b d).box_no) as_lent
      ∙ (fresh.fresh b d (subst (λ (men : List Man). b < length men) as_lent there)).box_no));
}

pub work_watched-requires-clause-ready : goal.work_watched-requires-clause-ready
work_watched-requires-clause-ready g c κs within =
    let line = c.args.line in
    subst (λ (men : List Man). (i : ℕ) (d : Man) (e : Script) → i < length men
    → CanWork line.table.shared.table_id line.table.shared.key (get_or c.args.scripts.now i e) (get_or men i d))
    (sym c.deref_mut.ensures.value)
    (subst (λ (plan : PlanFields). (i : ℕ) (d : Man) (e : Script) → i < length c.args.men.items
    → CanWork line.table.shared.table_id plan (get_or c.args.scripts.now i e) (get_or c.args.men.items i d))
    (sym c.requires.line)
    (can_work line.table.shared.table_id c.args.plan.now c.args.scripts.now c.args.men.items c.requires.scripts
    c.requires.men))

pub ended-requires : goal.ended-requires
ended-requires g c =
    let line = c.args.line in
    let after : List Man = c.work_watched.new.men in
    let back = written_back c.args.men.len after c.args.men.items
    (sym c.deref_mut.ensures.len ∙ sym c.work_watched.ensures.count) in
    subst (λ (men : List Man). AreMen line.table.shared.table_id line.table.shared.key men) (sym back)
    (are_men line.table.shared.table_id line.table.shared.key c.args.plan.now c.args.scripts.now _ c.args.men.items
    c.deref_mut.result.now after c.requires.line c.deref_mut.ensures.value c.requires.men c.work_watched.ensures.count
    c.work_watched.ensures.worked)

pub returns-clause-shows : goal.returns-clause-shows
returns-clause-shows g c =
    let line = c.args.line in
    let table_id = line.table.shared.table_id in
    let plan = c.args.plan.now in
    let after : List Man = c.work_watched.new.men in
    let back = written_back c.args.men.len after c.args.men.items
    (sym c.deref_mut.ensures.len ∙ sym c.work_watched.ensures.count) in
    let men : AreMen table_id line.table.shared.key after =
    are_men table_id line.table.shared.key plan c.args.scripts.now _ c.args.men.items c.deref_mut.result.now after
    c.requires.line c.deref_mut.ensures.value c.requires.men c.work_watched.ensures.count
    c.work_watched.ensures.worked in
    let closed : Closed line.table.shared.key after c.in_ok-ended.ended.registers =
    subst (λ (men : List Man). Closed line.table.shared.key men c.in_ok-ended.ended.registers) back
    c.in_ok-ended.ensures in
    let seen = c.work_watched.ensures.watched in
    let rounds : c.work_watched.new.board.rounds ≡ seen.0 = ap (λ (b : BoardFields). b.rounds) seen.2
    ∙ ap (λ (rs : List (List Sight)). rs ++ seen.0) c.requires.none in
    IfOk-weaker c.merge-journal.result _ _
    (λ journal merge.
    subst (λ (rs : List (List Sight)). IsBoardOf plan journal.entries rs) (sym rounds)
    (c.watched_law.ensures table_id plan after seen.0 seen.1 journal.entries c.in_ok-ended.ended.registers
    c.meets_conditions.ensures
    (subst (λ (p : PlanFields). AreMen table_id p after) c.requires.line men)
    (subst (λ (p : PlanFields). IsWatched p after seen.0 seen.1) c.requires.line seen.4)
    (subst (λ (p : PlanFields). Closed p after c.in_ok-ended.ended.registers) c.requires.line closed)
    merge.legal merge.parts))
    c.merge-journal.ensures
