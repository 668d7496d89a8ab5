use Rattle.std.proofs.Common.{ℕ, subst, sym}
use Rattle.locking_table.specs.Places.{IsLever}
use Rattle.box_desk.proofs.LeverLaws.{free_here, reversed_here}
use Rattle.box_desk.proofs.equipment.Equipment.reverse.Goals as goal

pub reverse-requires-clause-normal : goal.reverse-requires-clause-normal
reverse-requires-clause-normal c =
    let lever = subst (λ (n : ℕ). IsLever n c.args.lever) (sym c.requires.fitted.frame.size) c.requires.lever in
    (free_here c.args.plan.now c.args.self.now c.args.lever
    (c.answer_law.ensures.pull c.args.plan.now c.args.self.now.frame c.args.lever c.args.self.now.tracks
    c.requires.fitted.frame lever)
    c.requires.free).normal

pub reverse-requires-clause-used : goal.reverse-requires-clause-used
reverse-requires-clause-used c =
    let lever = subst (λ (n : ℕ). IsLever n c.args.lever) (sym c.requires.fitted.frame.size) c.requires.lever in
    (free_here c.args.plan.now c.args.self.now c.args.lever
    (c.answer_law.ensures.pull c.args.plan.now c.args.self.now.frame c.args.lever c.args.self.now.tracks
    c.requires.fitted.frame lever)
    c.requires.free).used

pub reverse-requires-clause-free : goal.reverse-requires-clause-free
reverse-requires-clause-free c =
    let lever = subst (λ (n : ℕ). IsLever n c.args.lever) (sym c.requires.fitted.frame.size) c.requires.lever in
    (free_here c.args.plan.now c.args.self.now c.args.lever
    (c.answer_law.ensures.pull c.args.plan.now c.args.self.now.frame c.args.lever c.args.self.now.tracks
    c.requires.fitted.frame lever)
    c.requires.free).rows

pub returns-clause-here : goal.returns-clause-here
returns-clause-here c =
    let lever = subst (λ (n : ℕ). IsLever n c.args.lever) (sym c.requires.fitted.frame.size) c.requires.lever in
    reversed_here c.args.plan.now c.args.self.now c.args.lever c.reverse.new.self c.reverse.ensures
    (c.answer_law.ensures.arm c.args.plan.now c.args.self.now.frame c.args.lever c.requires.fitted.frame lever)
