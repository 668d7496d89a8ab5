use Rattle.std.proofs.Common.{◌≤◌, ℕ, List, All, sym, subst, ◌∙◌}
use Rattle.line_runs.proofs.ScriptsWorked.{lengths_few}
use Rattle.line_runs.proofs.watched.watched_line.Goals as goal

pub open_line-opened-requires-clause-rooms : goal.open_line-opened-requires-clause-rooms
open_line-opened-requires-clause-rooms g c =
    subst (λ (lengths : List ℕ). All (λ n. n ≤ 10000) lengths)
    (sym (c.deref.ensures.value ∙ c.in_ok-lengths.ensures))
    (lengths_few c.args.plan.now c.args.scripts.now c.requires.scripts)
