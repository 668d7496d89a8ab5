use native.Mathlib.Omega.{arith}
use Rattle.frame_ways.proofs.Moves.{moved_to}
use Rattle.frame_ways.proofs.walker.Walker.move_lever.Goals as goal

pub invariant_of-self-2 : goal.invariant_of-self-2
invariant_of-self-2 c =
    moved_to c.self.inside.table.now c.self.inside.ends.items c.self.inside.path.items c.push.new.self.items
    c.args.lever c.other-end.result c.self.invariant (rw (← c.self.view_is) at c.requires)
    (grind (arith, c.other-end.ensures, c.end_of.ensures, c.deref.ensures.value)) c.in_ok-push.ensures.items
