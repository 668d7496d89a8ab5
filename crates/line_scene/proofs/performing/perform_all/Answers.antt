use Rattle.std.proofs.Common.{ℕ, ◌+◌, ap, subst, sym, ◌∙◌}
use Rattle.line_law.specs.History.{IsLegalFrom, state_after}
use Rattle.line_law.specs.Lines.{PlainState}
use Rattle.line_law.specs.States.{LineState}
use Rattle.line_scene.proofs.After.{legal_next, may_call, state_next}
use Rattle.line_scene.proofs.performing.perform_all.Goals as goal

pub loop-entry-init : goal.loop-entry-init
loop-entry-init c = record {
  line = c.requires.line;
  calls = ap (λ (p : PlainState). p.calls) c.requires.opening;
  legal = subst (λ (s : LineState). IsLegalFrom c.args.plan.now s c.args.entries.now)
      (sym (ap (λ (p : PlainState). p.line) c.requires.opening)) c.requires.legal;
  state = ap (λ (p : PlainState). state_after c.args.plan.now p.line c.args.entries.now) c.requires.opening;
}

pub perform-requires-clause-call : goal.perform-requires-clause-call
perform-requires-clause-call c =
    may_call c.args.plan.now c.loop-entry.line.line c.args.entries.now c.loop-entry.entry-index _
    c.loop-entry-test.true c.loop-entry.invariant.legal

pub loop-entry-preserved : goal.loop-entry-preserved
loop-entry-preserved c = record {
  line = c.perform.ensures.line;
  calls = c.perform.ensures.calls ∙ ap (λ (n : ℕ). n + 1) c.loop-entry.invariant.calls;
  legal = legal_next c.args.plan.now c.loop-entry.line.line c.perform.new.self.line _ c.args.entries.now
      c.loop-entry.entry-index _ c.loop-entry-test.true c.perform.ensures.told c.loop-entry.invariant.legal;
  state = state_next c.args.plan.now c.loop-entry.line.line c.perform.new.self.line _ _ c.args.entries.now
      c.loop-entry.entry-index _ c.loop-entry-test.true c.perform.ensures.told c.loop-entry.invariant.state;
}
