use Rattle.std.proofs.Common.{◌≡◌, ℕ, List, ◌+◌, length, drop, sym, refl, ap, ◌∙◌, subst, arith, add-zero}
use Rattle.std.proofs.lemmas.List.{take_all}
use Rattle.line_law.specs.declared.call.Call.{Call}
use Rattle.line_law.specs.History.{IsLegal, part_of}
use Rattle.line_law.specs.Serial.{AreCalls}
use Rattle.signalman_seats.specs.Men.{IsOf, Man}
use Rattle.line_working.specs.Working.{DidWork, Worked, moment_after}
use Rattle.instrument_rule.specs.Posts.{plan_of}
use Rattle.line_working.proofs.CallByCall.{begun, moment_on, next_call, one_more_of}
use Rattle.line_working.proofs.working.work.Goals as goal

pub loop-i-init : goal.loop-i-init
loop-i-init g c =
    let line = c.args.line.now in
    let man = c.lend_watch.new.self in
    let same : man ≡ c.args.man.now = c.lend_watch.ensures.same in
    let legal : IsLegal (plan_of line) man.view.seen =
    subst (λ (m : Man). IsLegal (plan_of line) m.view.seen) (sym same) c.lend_watch.ensures.legal in record {
      of_line = subst (λ (m : Man). IsOf line.table.shared.table_id (plan_of line) m) (sym same)
          c.requires.ready.of_line;
      box_no = refl;
      rest = subst (λ (m : Man). AreCalls (plan_of line) m.box_no m.moment c.args.script.now.calls) (sym same)
          c.requires.ready.calls;
      entries = c.entries-entries.ensures.part;
      spare = add-zero man.spare;
      moment = refl;
      worked = begun (plan_of line) man.box_no c.args.looks man.view legal;
    }

pub perform_pausing-reply-requires-clause-spare : goal.perform_pausing-reply-requires-clause-spare
perform_pausing-reply-requires-clause-spare g c =
    let before = ap (λ (m : Man). m.spare) c.lend_watch.ensures.same in
    let items = ap length c.as_slice-call-items.ensures in
    let spare = c.loop-i.invariant.spare in
    let room = c.requires.ready.room in
    omega arith

pub perform_pausing-reply-requires-clause-known : goal.perform_pausing-reply-requires-clause-known
perform_pausing-reply-requires-clause-known g c = (next_call _ _ _ _ _ _ _ c.as_slice-call-items.ensures
    c.loop-i-test.true c.loop-i.invariant.rest).known

pub perform_pausing-reply-requires-clause-later : goal.perform_pausing-reply-requires-clause-later
perform_pausing-reply-requires-clause-later g c = (next_call _ _ _ _ _ _ _ c.as_slice-call-items.ensures
    c.loop-i-test.true c.loop-i.invariant.rest).later

pub loop-i-preserved : goal.loop-i-preserved
loop-i-preserved g c =
    let plan = plan_of c.args.line.now in
    let old = c.loop-i.man in
    let new = c.perform_pausing-reply.new.self in
    let now = c.loop-i.invariant in
    let rest : List Call = drop (c.loop-i.i + 1) c.args.script.now.calls in
    record {
      of_line = c.perform_pausing-reply.ensures.line;
      box_no = c.perform_pausing-reply.ensures.box_no ∙ now.box_no;
      rest = subst (λ (b : ℕ). AreCalls plan b new.moment rest) (sym c.perform_pausing-reply.ensures.box_no)
          (subst (λ (m : ℕ). AreCalls plan old.box_no m rest) (sym c.perform_pausing-reply.ensures.moment)
          (next_call _ _ _ _ _ _ _ c.as_slice-call-items.ensures c.loop-i-test.true now.rest).rest);
      entries = c.perform_pausing-reply.ensures.entries ∙ ap (λ (b : ℕ). part_of b new.view.seen) now.box_no;
      spare = (let e = c.perform_pausing-reply.ensures.spare in let n = now.spare in omega arith);
      moment = moment_on _ _ _ _ _ _ c.as_slice-call-items.ensures c.loop-i-test.true
          c.perform_pausing-reply.ensures.moment;
      worked = one_more_of _ _ _ _ _ _ _ _ _ _ _ _ now.box_no c.as_slice-call-items.ensures c.loop-i-test.true
          now.worked c.perform_pausing-reply.ensures.performed;
    }

pub returns : goal.returns
returns g c =
    let line = c.args.line.now in
    let calls = c.args.script.now.calls in
    let now = c.loop-i.invariant in
    let all : c.loop-i.i ≡ length calls = let e = ap length c.as_slice-call-items.ensures in
    let low = c.loop-i-test.false in let high = c.loop-i.auto.i-end in omega arith in
    let Did : Man → Type 0 = λ before. DidWork line.table.shared.table_id (plan_of line) c.args.script.now
    c.args.looks before c.loop-i.man in
    subst Did c.lend_watch.ensures.same (record {
      of_line = now.of_line;
      box_no = now.box_no;
      worked = subst (λ (cs : List Call). Worked (plan_of line) c.lend_watch.new.self.box_no cs c.args.looks
          c.lend_watch.new.self.view c.loop-i.man.view)
          (take_all c.loop-i.i calls (omega arith)) now.worked;
      entries = now.entries;
      spare = subst (λ (n : ℕ). c.loop-i.man.spare + n ≡ c.lend_watch.new.self.spare) all now.spare;
      moment = subst (λ (cs : List Call). c.loop-i.man.moment ≡ moment_after c.lend_watch.new.self.moment cs)
          (take_all c.loop-i.i calls (omega arith)) now.moment;
    })
