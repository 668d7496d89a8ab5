use Rattle.std.proofs.Common.{ℕ, List, subst, sym, ◌∙◌}
use Rattle.std.specs.Prelude.{Option}
use Rattle.row_circles.specs.Circles.{AreHolders}
use Rattle.frame_report.proofs.CircleLemmas.{holders_are}
use Rattle.frame_report.proofs.circling.circles_of.Goals as goal

pub rounds_of-requires-clause-holders : goal.rounds_of-requires-clause-holders
rounds_of-requires-clause-holders c =
    subst (λ (hs : List (Option ℕ)). AreHolders c.args.walk.now hs)
    (sym (c.deref.ensures.value ∙ c.in_ok-holders.ensures))
    (holders_are c.args.walk.now c.args.reports.now c.requires.blamed)
