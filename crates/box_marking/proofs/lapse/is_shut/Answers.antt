use Rattle.std.proofs.Common.{◌≡◌, true, ap, ◌∙◌}
use Rattle.line_law.specs.declared.call.Reply.{Reply}
use Rattle.line_law.specs.Known.{knows_berth}
use Rattle.line_law.specs.Refusals.{is_refused}
use Rattle.line_law.proofs.Sides.{known_box}
use Rattle.box_marking.proofs.Shut.{clear_may, shut_with, shut_without}
use Rattle.box_marking.proofs.lapse.is_shut.Goals as goal

pub knows_berth-requires : goal.knows_berth-requires
knows_berth-requires c =
    known_box c.args.plan.now c.args.entry.now.box_no c.args.entry.now.call c.requires.call.known

pub returns-then-not-knows_berth : goal.returns-then-not-knows_berth
returns-then-not-knows_berth c =
    let tells = c.knows_berth.ensures in
    let not = c.if-not-knows_berth.true in
    shut_without c.args.plan.now c.args.line.now.line c.args.entry.now c.args.way cc

pub answer-requires-clause-call : goal.answer-requires-clause-call
answer-requires-clause-call c =
    let tells = c.knows_berth.ensures in
    let has = c.if-not-knows_berth.false in
    clear_may c.args.plan.now c.args.line.now.line c.args.entry.now.box_no c.args.entry.now.call c.args.way
    c.requires.call cc

pub returns : goal.returns
returns c =
    let tells = c.knows_berth.ensures in
    let has = c.if-not-knows_berth.false in
    let knows : knows_berth c.args.plan.now c.args.entry.now.box_no c.args.way ≡ true = cc in
    c.is_refused.ensures ∙ ap (λ (reply : Reply). is_refused reply) c.answer.ensures
    ∙ shut_with c.args.plan.now c.args.line.now.line c.args.entry.now c.args.way knows
