use Rattle.std.proofs.Common.{◌++◌, List, [], option_to_list, sym, ap, subst, ◌∙◌, arith}
use Rattle.std.proofs.lemmas.List.{append-nil, append_assoc}
use Rattle.line_film.specs.declared.changes.Change.{Change}
use Rattle.line_film.specs.Changes.{AreChanges}
use Rattle.line_film.proofs.Changed.{change_here, none_left}
use Rattle.line_film.proofs.changes.changes_by.Goals as goal

pub loop-slot-preserved : goal.loop-slot-preserved
loop-slot-preserved c rest more =
    let first = option_to_list c.change_of-change.result in
    let here = change_here c.args.before.now c.args.after.now c.loop-slot.slot _ _ first rest
    (omega (arith, c.requires, c.loop-slot-test.true)) c.loop-slot-test.true c.change_of-change.ensures more in
    subst (λ (cs : List Change). AreChanges 0 c.args.before.now c.args.after.now cs)
    (sym (ap (λ (cs : List Change). cs ++ rest) c.in_ok-add_change.ensures
    ∙ append_assoc c.loop-slot.changes.items first rest))
    (c.loop-slot.invariant (first ++ rest) here)

pub returns : goal.returns
returns c =
    let over = none_left c.args.before.now c.args.after.now c.loop-slot.slot
    (omega (arith, c.requires, c.loop-slot-test.false)) (omega (arith, c.loop-slot-test.false)) in
    subst (λ (cs : List Change). AreChanges 0 c.args.before.now c.args.after.now cs)
    (append-nil c.loop-slot.changes.items) (c.loop-slot.invariant [] over)
