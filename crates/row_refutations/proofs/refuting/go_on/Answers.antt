use Rattle.std.proofs.Common.{refl}
use Rattle.row_refutations.proofs.refuting.go_on.Goals as goal

pub returns-in-Broken : goal.returns-in-Broken
returns-in-Broken c = λ state at is hold agrees.
    c.in-Broken.ensures.broken state c.in-Broken.at refl hold (c.loop.invariant state hold agrees)
