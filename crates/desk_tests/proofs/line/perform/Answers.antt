use Rattle.std.proofs.Common.{◌≡◌, ℕ, List, length, ap, arith, subst, sym, ◌∙◌, set}
use Rattle.std.proofs.lemmas.List.{with_items_is}
use Rattle.desk_tests.specs.DeskLines.{HoldNumbers, then_called}
use Rattle.desk_tests.specs.Workings.{IsAfter}
use Rattle.desk_tests.proofs.Lines.{alike, desk_read, goes_on, in_desks, ready}
use Rattle.desk_tests.proofs.line.perform.Goals as goal

pub index_mut-desk-requires : goal.index_mut-desk-requires
index_mut-desk-requires c =
    let line = c.args.line.now in
    let w = c.requires.worked in
    let there = in_desks c.args.plan.now w.0 line.boxes line.desks.items line.words.items line.plain c.args.box_no
    c.args.call.now c.meets_conditions.ensures w.1 c.requires.call c.requires.few in
    let same = line.desks.ok.0 in
    omega (arith, same, there)

pub work-by_desk-requires : goal.work-by_desk-requires
work-by_desk-requires c =
    let line = c.args.line.now in
    let w = c.requires.worked in (
      c.args.plan.now,
      w.0,
      w.1.wide,
      ready c.args.plan.now w.0 line.boxes line.desks.items line.words.items line.plain c.args.box_no
          c.args.call.now c.meets_conditions.ensures w.1 c.requires.call c.requires.few,
      desk_read c.args.plan.now w.0 line.boxes line.desks.items line.words.items line.plain c.args.box_no
          c.args.call.now c.meets_conditions.ensures w.1 c.requires.call c.requires.few
          c.index_mut-desk.result.now c.index_mut-desk.ensures.value,
      subst (HoldNumbers c.args.plan.now w.0) (sym c.deref_mut.ensures.value) w.1.words_hold,
    )

pub returns-clause-worked : goal.returns-clause-worked
returns-clause-worked c =
    let plan = c.args.plan.now in
    let line = c.args.line.now in
    let w = c.requires.worked in
    let may_follow = ready plan w.0 line.boxes line.desks.items line.words.items line.plain c.args.box_no
    c.args.call.now c.meets_conditions.ensures w.1 c.requires.call c.requires.few in
    let done = c.work-by_desk.ensures plan w.0 w.1.wide may_follow
    (desk_read plan w.0 line.boxes line.desks.items line.words.items line.plain c.args.box_no
    c.args.call.now c.meets_conditions.ensures w.1 c.requires.call c.requires.few
    c.index_mut-desk.result.now c.index_mut-desk.ensures.value)
    (subst (HoldNumbers plan w.0) (sym c.deref_mut.ensures.value) w.1.words_hold) in
    let count : length c.work-by_desk.new.words ≡ line.words.len = done.words_hold.count
    ∙ (sym w.1.words_hold.count ∙ (sym (ap (λ (ns : List ℕ). length ns) c.deref_mut.ensures.value)
    ∙ c.deref_mut.ensures.len)) in (
      then_called plan w.0 c.args.box_no c.args.call.now,
      subst (λ (ws : List ℕ). IsAfter plan (then_called plan w.0 c.args.box_no c.args.call.now) line.boxes
          (set line.desks.items c.args.box_no c.work-by_desk.new.desk) ws c.perform-by_law.new.self)
          (sym (with_items_is line.words c.work-by_desk.new.words count))
          (goes_on plan w.0 line.boxes line.desks.items line.words.items line.plain c.args.box_no c.args.call.now
          c.meets_conditions.ensures w.1 c.requires.call c.requires.few c.work-by_desk.result.reply
          c.perform-by_law.result c.work-by_desk.new.desk c.work-by_desk.new.words c.perform-by_law.new.self done
          c.perform-by_law.ensures.told c.perform-by_law.ensures.calls c.perform-by_law.ensures.line),
    )

pub returns-clause-alike : goal.returns-clause-alike
returns-clause-alike c =
    let plan = c.args.plan.now in
    let line = c.args.line.now in
    let w = c.requires.worked in
    let may_follow = ready plan w.0 line.boxes line.desks.items line.words.items line.plain c.args.box_no
    c.args.call.now c.meets_conditions.ensures w.1 c.requires.call c.requires.few in
    alike plan w.0 line.boxes line.desks.items line.words.items line.plain c.args.box_no c.args.call.now
    c.meets_conditions.ensures w.1 c.requires.call c.requires.few c.work-by_desk.result.reply c.perform-by_law.result
    c.work-by_desk.new.desk c.work-by_desk.new.words c.perform-by_law.new.self
    (c.work-by_desk.ensures plan w.0 w.1.wide may_follow
    (desk_read plan w.0 line.boxes line.desks.items line.words.items line.plain c.args.box_no
    c.args.call.now c.meets_conditions.ensures w.1 c.requires.call c.requires.few
    c.index_mut-desk.result.now c.index_mut-desk.ensures.value)
    (subst (HoldNumbers plan w.0) (sym c.deref_mut.ensures.value) w.1.words_hold))
    c.perform-by_law.ensures.told
