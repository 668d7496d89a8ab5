use Rattle.std.proofs.Common.{IsTrue, sym, ◌∙◌, subst}
use Rattle.line_law.specs.declared.call.Entry.{Entry}
use Rattle.script_text.specs.Replies.{is_spelled_reply}
use Rattle.box_view.proofs.Levers.{moved_back, moved_over, pull_known, pull_may, pull_spelled, put_known, put_may}
use Rattle.box_view.proofs.Levers.{put_spelled}
use Rattle.box_view.proofs.may.move_of.Goals as goal

pub answered-pull-requires-clause-call : goal.answered-pull-requires-clause-call
answered-pull-requires-clause-call c =
    pull_may c.args.plan.now c.args.line.now.line c.args.box_no c.args.moment c.args.lever c.requires.at c.requires.day
    c.requires.later c.requires.lever

pub answered-requires-clause-call : goal.answered-requires-clause-call
answered-requires-clause-call c =
    put_may c.args.plan.now c.args.line.now.line c.args.box_no c.args.moment c.args.lever c.requires.at c.requires.day
    c.requires.later c.requires.lever

pub returns-then-is_reversed_already-clause-law : goal.returns-then-is_reversed_already-clause-law
returns-then-is_reversed_already-clause-law c =
    moved_back c.args.plan.now c.args.line.now.line c.args.box_no c.args.moment c.args.lever _ _ c.answered-pull.ensures
    (sym c.is_reversed_already.ensures ∙ c.if-is_reversed_already.true) c.answered.ensures

pub returns-then-is_reversed_already-clause-spelled : goal.returns-then-is_reversed_already-clause-spelled
returns-then-is_reversed_already-clause-spelled c =
    subst (λ (e : Entry). IsTrue (is_spelled_reply c.args.plan.now c.args.box_no e.reply)) (sym c.answered.ensures)
    (put_spelled c.args.plan.now c.args.line.now c.args.box_no c.args.moment c.args.lever c.meets_conditions.ensures
    c.requires.line c.requires.few
    (put_known c.args.plan.now c.args.box_no c.args.moment c.args.lever c.requires.at c.requires.day c.requires.lever))

pub returns-clause-law : goal.returns-clause-law
returns-clause-law c =
    moved_over c.args.plan.now c.args.line.now.line c.args.box_no c.args.moment c.args.lever _ c.answered-pull.ensures
    (sym c.is_reversed_already.ensures ∙ c.if-is_reversed_already.false)

pub returns-clause-spelled : goal.returns-clause-spelled
returns-clause-spelled c =
    subst (λ (e : Entry). IsTrue (is_spelled_reply c.args.plan.now c.args.box_no e.reply)) (sym c.answered-pull.ensures)
    (pull_spelled c.args.plan.now c.args.line.now c.args.box_no c.args.moment c.args.lever c.meets_conditions.ensures
    c.requires.line c.requires.few
    (pull_known c.args.plan.now c.args.box_no c.args.moment c.args.lever c.requires.at c.requires.day c.requires.lever))
