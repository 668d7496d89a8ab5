use Rattle.command_words.specs.Commands.{Command}
use Rattle.line_runs.specs.Outputs.{IsOutputOf}
use Rattle.text_fetch.specs.FromTexts.{named}
use Rattle.text_fetch.specs.Runs.{run_told}
use Rattle.box_top.specs.Outcomes.{OutputOf}
use Rattle.box_top.proofs.Headlines.{run_done}
use Rattle.box_top.proofs.Outcomes.{makes_print}
use Rattle.box_top.proofs.Serving.{outcome_served}
use Rattle.box_top.proofs.top.serve_run.Goals as goal

pub returns : goal.returns
returns g c =
    let put = c.put_outcome.ensures in
    let made = c.run_outcome-outcome.ensures in
    outcome_served g.S.Shelf.held g.S.Shelf.faults g.K.Sink.taken g.K.Sink.faults c.run_outcome-outcome.result
    (λ text. text.items) (Command.Run c.args.plan.now (named c.args.scripts.now)) _ _ _ _ _
    (makes_print IsOutputOf OutputOf (λ run text h. h) c.run_outcome-outcome.result (λ text. text.items)
    (run_told (g.S.Shelf.held c.args.shelf.now) c.args.plan.now (named c.args.scripts.now)) made.told)
    put.took put.sink put.not_fetched put.no_memory made.fault made.same
    (λ done told. run_done c.run_outcome-outcome.result (λ text. text.items) (g.S.Shelf.held c.args.shelf.now)
    c.args.plan.now (named c.args.scripts.now) _ _ _ made.told put.took done told) (λ done. tt)
