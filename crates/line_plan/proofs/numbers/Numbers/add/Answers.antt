use Rattle.std.proofs.Common.{◌∙◌, arith}
use Rattle.line_plan.proofs.Indexed.{index_more}
use Rattle.line_plan.proofs.numbers.Numbers.add.Goals as goal

pub invariant_of-self-2 : goal.invariant_of-self-2
invariant_of-self-2 c =
    rw c.in_ok-push.ensures.items
    (index_more c.self.inside.numbers.items c.self.inside.places.items c.widen.new.places.items c.args.number
    c.len.result c.self.invariant c.in_ok-widen.ensures.same c.in_ok-widen.ensures.ok (rw c.self.view_is c.requires)
    (c.len.ensures ∙ c.in_ok-push.ensures.len ∙ omega (arith, c.self.inside.numbers.ok)))
