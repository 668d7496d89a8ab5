use Rattle.std.proofs.Common.{◌∙◌, sym}
use Rattle.box_session.proofs.Rounds.{round_after, round_begins, round_entries, round_more}
use Rattle.box_session.proofs.others.go_on.Goals as goal

pub loop-box_no-init : goal.loop-box_no-init
loop-box_no-init c =
    round_begins c.args.plan.now c.args.work.now.line c.args.work.now.roster c.args.entries.now.items c.requires

pub loop-box_no-preserved : goal.loop-box_no-preserved
loop-box_no-preserved c =
    round_more c.args.plan.now _ _ _ c.loop-box_no.work.line _ c.loop-box_no.work.roster _ c.loop-box_no.entries.items _
    c.call_next.result c.loop-box_no.invariant c.call_next.ensures.next c.call_next.ensures.after
    c.call_next.ensures.going c.in_ok-push.ensures.items

pub returns-clause-entries : goal.returns-clause-entries
returns-clause-entries c =
    round_entries c.args.plan.now _ _ _ c.loop-box_no.work.line c.loop-box_no.work.roster c.loop-box_no.entries.items
    c.loop-box_no.invariant (sym c.first_free.ensures ∙ c.in_default.is)

pub returns-clause-after : goal.returns-clause-after
returns-clause-after c =
    round_after c.args.plan.now _ _ _ c.loop-box_no.work.line c.loop-box_no.work.roster c.loop-box_no.entries.items
    c.loop-box_no.invariant (sym c.first_free.ensures ∙ c.in_default.is)
