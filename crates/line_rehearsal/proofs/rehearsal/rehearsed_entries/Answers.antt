use Rattle.std.proofs.Common.{◌∙◌, sym}
use Rattle.line_rehearsal.proofs.Rounds.{round_begins, round_ended, round_more, round_reached, round_stopped}
use Rattle.line_rehearsal.proofs.rehearsal.rehearsed_entries.Goals as goal

pub loop-box_no-init : goal.loop-box_no-init
loop-box_no-init c =
    round_begins c.args.plan.now c.args.scripts.now c.args.until c.args.made.now c.args.line.now _ c.requires.way
    c.requires.line c.requires.made c.new-entries.ensures.items

pub loop-box_no-preserved : goal.loop-box_no-preserved
loop-box_no-preserved c =
    round_more c.args.plan.now c.args.scripts.now c.args.until c.loop-box_no.made _ c.loop-box_no.line _
    c.loop-box_no.entries.items _ c.call_next-entry.result c.loop-box_no.from _ c.in-Some.box_no
    c.loop-box_no.invariant (sym c.first_free.ensures ∙ c.in-Some.is) c.call_next-entry.ensures.made
    c.call_next-entry.ensures.way c.in_ok-push.ensures.items (sym c.ends_with.ensures ∙ c.if-ends_with.false)
    c.saturating_sub-from.ensures

pub returns-then-ends_with-clause-rehearsal : goal.returns-then-ends_with-clause-rehearsal
returns-then-ends_with-clause-rehearsal c =
    round_ended c.args.plan.now c.args.scripts.now c.args.until c.loop-box_no.made _ c.loop-box_no.line
    c.call_next-entry.new.line c.loop-box_no.entries.items _ c.call_next-entry.result c.loop-box_no.from
    c.meets_conditions.ensures c.requires.scripts c.loop-box_no.invariant c.call_next-entry.ensures.made
    c.in_ok-push.ensures.items (sym c.ends_with.ensures ∙ c.if-ends_with.true)

pub returns-then-ends_with-clause-state : goal.returns-then-ends_with-clause-state
returns-then-ends_with-clause-state c =
    round_reached c.args.plan.now c.args.scripts.now c.args.until c.loop-box_no.made c.call_next-entry.new.made
    c.loop-box_no.line c.call_next-entry.new.line c.loop-box_no.entries.items _ c.call_next-entry.result
    c.loop-box_no.from c.loop-box_no.invariant c.call_next-entry.ensures.made c.in_ok-push.ensures.items

pub returns-clause-rehearsal : goal.returns-clause-rehearsal
returns-clause-rehearsal c =
    round_stopped c.args.plan.now c.args.scripts.now c.args.until c.loop-box_no.made c.loop-box_no.line
    c.loop-box_no.entries.items c.loop-box_no.from c.meets_conditions.ensures c.requires.scripts
    c.loop-box_no.invariant (sym c.first_free.ensures ∙ c.in_default.is)
