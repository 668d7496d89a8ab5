use Rattle.std.proofs.Common.{ℕ, List, sym, subst}
use Rattle.line_plan.specs.Plans.{PlanFields}
use Rattle.line_law.specs.Law.{at_moment, box_plan_of, decide, link_of}
use Rattle.box_desk.specs.Boxes.{here_of}
use Rattle.box_desk.specs.Desks.{Answers, DeskFields, FitsTrain, IsDeskOf, IsKeptOf, moved_to}
use Rattle.box_desk.specs.Steps.{ask_of}
use Rattle.box_desk.proofs.Counting.{call_counts}
use Rattle.box_desk.proofs.Keeping.{answers_word, local_counts, moment_counts, word_counts}
use Rattle.box_desk.proofs.Known.{brings_no, few_moments_of, knows_lever_of, knows_train_of}
use Rattle.box_desk.proofs.desk.Desk.prepare.Goals as goal

pub prepare-step-requires-clause-lever : goal.prepare-step-requires-clause-lever
prepare-step-requires-clause-lever c =
    knows_lever_of c.requires.known.0 c.requires.known.1 _ c.args.call.now
    (subst (λ (v : DeskFields). IsDeskOf c.requires.known.0 c.requires.known.1 v) (sym c.self.view_is)
    c.requires.known.2) c.requires.known.3

pub prepare-step-requires-clause-train : goal.prepare-step-requires-clause-train
prepare-step-requires-clause-train c =
    subst (λ (places : List ℕ). FitsTrain c.self.inside.plan places c.args.call.now.act) (sym c.deref.ensures.value)
    (knows_train_of c.requires.known.0 c.requires.known.1 _ c.args.call.now
    (subst (λ (v : DeskFields). IsDeskOf c.requires.known.0 c.requires.known.1 v) (sym c.self.view_is)
    c.requires.known.2) c.requires.known.3)

pub prepare-step-requires-clause-moment : goal.prepare-step-requires-clause-moment
prepare-step-requires-clause-moment c =
    few_moments_of c.requires.known.0 c.requires.known.1 _ c.args.call.now
    (subst (λ (v : DeskFields). IsDeskOf c.requires.known.0 c.requires.known.1 v) (sym c.self.view_is)
    c.requires.known.2) c.requires.known.3

pub invariant_of-self : goal.invariant_of-self
invariant_of-self c =
    let is = subst (λ (v : DeskFields). IsDeskOf c.requires.known.0 c.requires.known.1 v) (sym c.self.view_is)
    c.requires.known.2 in
    let fits = knows_train_of c.requires.known.0 c.requires.known.1 _ c.args.call.now is c.requires.known.3 in
    let kept = subst (λ (places : List ℕ). IsKeptOf c.requires.known.0 places c.self.inside.delay)
    (sym c.deref.ensures.value) is.kept in
    record {
      sound = c.self.invariant.sound;
      fitted = c.prepare-step.ensures.fitted;
      counted = local_counts _ _ (link_of c.self.inside.plan c.args.call.now.act) _ _ _ _ _ _ c.in-Local.is
          (c.prepare-step.ensures.told c.requires.known.0 kept)
          (call_counts c.requires.known.0 c.self.inside.plan _ _
          (at_moment (here_of c.self.inside.equipment) c.args.call.now.moment) c.args.call.now.act
          (brings_no c.self.inside.plan _ c.args.call.now.act c.self.invariant.few_trains fits)
          (moment_counts _ _ c.args.call.now.moment (here_of c.self.inside.equipment) c.self.invariant.counted));
      few_trains = c.self.invariant.few_trains;
      short = c.self.invariant.short;
    }

pub invariant_of-self-in_default : goal.invariant_of-self-in_default
invariant_of-self-in_default c =
    let is = subst (λ (v : DeskFields). IsDeskOf c.requires.known.0 c.requires.known.1 v) (sym c.self.view_is)
    c.requires.known.2 in
    let kept = subst (λ (places : List ℕ). IsKeptOf c.requires.known.0 places c.self.inside.delay)
    (sym c.deref.ensures.value) is.kept in
    record {
      sound = c.self.invariant.sound;
      fitted = c.prepare-step.ensures.fitted;
      counted = word_counts _ _ _ _ _ _ _ _ c.in_default.is (c.prepare-step.ensures.told c.requires.known.0 kept)
          (moment_counts _ _ c.args.call.now.moment (here_of c.self.inside.equipment) c.self.invariant.counted);
      few_trains = c.self.invariant.few_trains;
      short = c.self.invariant.short;
    }

pub returns-in_default : goal.returns-in_default
returns-in_default c =
    subst (λ (v : DeskFields). (plan : PlanFields) (b : ℕ) → IsDeskOf plan b v
    → Answers (decide plan (box_plan_of plan b) c.args.call.now.act (at_moment v.here c.args.call.now.moment))
    (ask_of plan (box_plan_of plan b) c.args.call.now (at_moment v.here c.args.call.now.moment))
    (moved_to v c.args.call.now.moment) c.prepare-step.result
    (record {
      box_plan = c.self.inside.plan;
      train_places = c.self.inside.train_places.items;
      delay = c.self.inside.delay;
      here = here_of c.prepare-step.new.self;
      calls = c.self.inside.calls;
    })) c.self.view_is
    (λ plan b is. answers_word plan b _ c.args.call.now c.prepare-step.result (here_of c.prepare-step.new.self) _ is
    c.in_default.is
    (c.prepare-step.ensures.told plan
    (subst (λ (places : List ℕ). IsKeptOf plan places c.self.inside.delay) (sym c.deref.ensures.value) is.kept)))
