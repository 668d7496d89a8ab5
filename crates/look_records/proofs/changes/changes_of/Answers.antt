use Rattle.std.proofs.Common.{◌++◌, List, [], option_to_list, sym, ap, subst, ◌∙◌, arith}
use Rattle.std.proofs.lemmas.List.{append-nil, append_assoc}
use Rattle.look_records.specs.declared.thing.BoxThing.{BoxThing}
use Rattle.look_records.specs.Changes.{AreChanges}
use Rattle.look_records.proofs.Listed.{change_here, none_left}
use Rattle.look_records.proofs.changes.changes_of.Goals as goal

pub loop-at-preserved : goal.loop-at-preserved
loop-at-preserved c rest more =
    let first = option_to_list c.change_of-change.result in
    let here = change_here c.args.before.now c.args.after.now c.loop-at.at _ first rest c.loop-at-test.true
    (rw c.thing_before-old.ensures at c.change_of-change.ensures) more in
    subst (λ (things : List BoxThing). AreChanges c.args.before.now 0 c.args.after.now things)
    (sym (ap (λ (things : List BoxThing). things ++ rest) c.in_ok-add_change.ensures
    ∙ append_assoc c.loop-at.changes.items first rest))
    (c.loop-at.invariant (first ++ rest) here)

pub returns : goal.returns
returns c =
    let over = none_left c.args.before.now c.args.after.now c.loop-at.at (omega (arith, c.loop-at-test.false)) in
    subst (λ (things : List BoxThing). AreChanges c.args.before.now 0 c.args.after.now things)
    (append-nil c.loop-at.changes.items) (c.loop-at.invariant [] over)
