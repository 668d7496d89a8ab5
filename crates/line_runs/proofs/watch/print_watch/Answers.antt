use Rattle.std.proofs.Common.{◌≡◌, ◌++◌, string_bytes}
use Rattle.std.proofs.lemmas.Result.{IfOk-weaker}
use Rattle.line_watch.specs.Boards.{board_text}
use Rattle.line_runs.specs.Outputs.{output_text}
use Rattle.line_runs.proofs.BothHold.{both_hold}
use Rattle.line_runs.proofs.watch.print_watch.Goals as goal

pub returns-clause-run : goal.returns-clause-run
returns-clause-run g c =
    IfOk-weaker c.both_made.result _ _ (λ r are. are.0)
    (both_hold _ _ _ (λ r. r.0.items ++ r.1 ≡ output_text c.args.plan.now c.args.watched.now.worked.journal.entries)
    (λ text. string_bytes text ≡ board_text c.args.plan.now c.args.watched.now.board.rounds) c.both_made.ensures
    c.join-run.ensures.first c.join-run.ensures.second)

pub returns-clause-board : goal.returns-clause-board
returns-clause-board g c =
    IfOk-weaker c.both_made.result _ _ (λ r are. are.1)
    (both_hold _ _ _ (λ r. r.0.items ++ r.1 ≡ output_text c.args.plan.now c.args.watched.now.worked.journal.entries)
    (λ text. string_bytes text ≡ board_text c.args.plan.now c.args.watched.now.board.rounds) c.both_made.ensures
    c.join-run.ensures.first c.join-run.ensures.second)
