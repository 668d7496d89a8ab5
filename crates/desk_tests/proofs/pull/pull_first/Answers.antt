use Rattle.std.proofs.Common.{sym, ◌∙◌}
use Rattle.line_law.proofs.Sides.{known_box}
use Rattle.desk_tests.proofs.pull.pull_first.Goals as goal

pub open-requires : goal.open-requires
open-requires c = known_box _ _ _ (sym c.knows.ensures ∙ c.if-not-knows.false)
