use Rattle.std.proofs.Common.{◌≡◌, None, length, refl, rules, subst, sym, ◌∙◌}
use Rattle.line_plan.specs.Plans.{PlanFields}
use Rattle.hand_working.specs.Duties.{AreDoings, Doings, taken_back}
use Rattle.hand_working.proofs.Days.{last_in_day}
use Rattle.hand_working.proofs.Doings.{stays_but_last, taken_are, taken_last, taken_same, undone_calls, undone_known}
use Rattle.hand_working.proofs.Doings.{undone_plan}
use Rattle.hand_working.proofs.duty.Duty.take_back.Goals as goal

-- what he had done, and what he has done now
before : goal.After-self-1 → Doings
before c = record {
  calls = c.self.inside.session.calls;
  befores = c.self.inside.befores.items;
  moment = c.self.inside.moment;
}

now : goal.After-self-1 → Doings
now c = record {
  calls = c.undo-undone.new.self.calls;
  befores = c.pop.new.self.items;
  moment = c.max-self-inside.result;
}

same : (c : goal.After-self-1) → now c ≡ taken_back (before c)
unfolding now before
same c =
    let few : length c.pop.new.self.items ≡ c.pop.new.self.len = search rules in
    let none : c.pop.result ≡ None → c.pop.new.self.len ≡ 0 = λ e. (rw e at c.pop.ensures.cases).1 in
    let last =
    taken_last c.self.inside.moment c.self.inside.befores.items c.pop.new.self.items c.pop.result c.pop.new.self.len
    c.pop.ensures.items few none
    in
    taken_same (before c) (now c)
    (undone_calls c.self.inside.session c.undo-undone.new.self c.undo-undone.result c.undo-undone.ensures)
    (stays_but_last c.self.inside.befores.items c.pop.new.self.items c.pop.result c.pop.new.self.len c.pop.ensures.items
    few none)
    (c.max-self-inside.ensures ∙ rw (c.unwrap_or-before.ensures, c.moment.ensures, last) refl)

pub invariant_of-self : goal.invariant_of-self
unfolding now before
invariant_of-self c =
    let new = c.undo-undone.new.self in
    let plan = undone_plan c.self.inside.session new c.undo-undone.result c.undo-undone.ensures in
    taken_are new.plan.version (before c) (now c)
    (subst (λ (p : PlanFields). AreDoings p.version (before c)) (sym plan) c.self.invariant)
    (last_in_day new.plan new.box_no 0 new.calls c.meets_conditions-2.ensures.calls) (same c)

pub returns-clause-doings : goal.returns-clause-doings
unfolding now before
returns-clause-doings c = rw (← c.self.view_is) (same c)

pub returns-clause-known : goal.returns-clause-known
returns-clause-known c =
    let old = c.self.inside.session in
    rw (← c.self.view_is) (undone_known old.plan old.box_no old c.undo-undone.new.self c.undo-undone.result
    c.meets_conditions.ensures.calls c.undo-undone.ensures)
