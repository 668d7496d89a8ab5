use Rattle.std.proofs.Common.{◌≡◌, ap, sym, arith, rules}
use Rattle.line_law.specs.History.{state_of}
use Rattle.line_law.specs.Known.{KnowsCall}
use Rattle.line_law.specs.Law.{MayCall}
use Rattle.box_session.specs.Sessions.{journal_of}
use Rattle.hand_working.specs.Duties.{Doings, DutyFields}
use Rattle.hand_working.proofs.Doings.{made_are}
use Rattle.hand_working.proofs.Told.{next_spelled}
use Rattle.hand_working.proofs.duty.Duty.make.Goals as goal

pub invariant_of-self-in-Ok : goal.invariant_of-self-in-Ok
invariant_of-self-in-Ok c =
    let session = c.self.inside.session in
    let doings : Doings =
    record { calls = session.calls; befores = c.self.inside.befores.items; moment = c.self.inside.moment }
    in
    let known : KnowsCall session.plan session.box_no c.args.call.now = search rules in
    rw (c.in-Ok.ensures.made, c.in_ok-push.ensures.items)
    (made_are session.plan session.box_no doings c.args.call.now c.self.invariant known)

pub returns-in-Ok-clause-spelled : goal.returns-in-Ok-clause-spelled
returns-in-Ok-clause-spelled c =
    let is = c.meets_conditions.ensures in
    let session = c.self.inside.session in
    let known : KnowsCall session.plan session.box_no c.args.call.now = search rules in
    let clock : c.args.self.now.moment ≡ c.self.inside.moment =
    sym (ap (λ (duty : DutyFields). duty.moment) c.self.view_is) in
    let may : MayCall session.plan (state_of session.plan (journal_of session)) session.box_no c.args.call.now =
    record {
      known = known;
      later = omega (arith, is.session.moment, c.self.invariant.later, c.requires.later, clock);
    }
    in
    rw (← c.self.view_is, c.box_no.ensures, c.in-Ok.ensures.reply, c.in-Ok.ensures.made)
    (next_spelled session.plan (journal_of session) session.box_no c.args.call.now is.plan is.short
    is.session.legal may)
